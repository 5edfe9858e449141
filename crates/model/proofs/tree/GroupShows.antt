-- A group of pages rebuilt: what the pages now used show.
-- Assumes nothing.
use Prim.Native.Nat.{ℕ, zero, suc, ◌+◌, ◌*◌, ◌/◌, ◌≤◌, ◌<◌}
use native.Mathlib.Omega.{arith}
use mathlib.Core.Bool.{Bool, true, false}
use mathlib.Core.Path.{◌≡◌, refl, ap, sym, ◌∙◌, subst}
use mathlib.Core.Logic.{◌⊎◌, inl, inr, ◌≢◌}
use mathlib.Core.List.{List, [], ◌∷◌, ◌++◌, append-nil}
use lib.Dec.{leb, ltb}
use lib.ListN.{length, get_or, set, take, drop, length-set, length-drop, take-append-drop}
use lib.Seq.{get_or-set_same, get_or-set_other, drop-cons, length-take-le}
use borrow.Author.Tests.{ltb-true, leb-true, leb-false, le-leb, lt-ltb}
use Rattle.model.specs.declared.Pair.{Pair}
use Rattle.model.specs.Entry.{pair, alive, within}
use Rattle.model.specs.Page.{Page, free, pairs_at, filled}
use Rattle.model.specs.Store.{page}
use Rattle.model.specs.Rules
use Rattle.model.specs.Rules.{retire, one, two, Rebuilt, rebuilt, short, low_key, exchange}
use Rattle.model.specs.Tree.{Row, Holds, in_range}
use Rattle.model.proofs.lists.Lists.{both_true, both-intro, all_cons}
use Rattle.model.proofs.lists.Bools.{same?}
use Rattle.model.proofs.tree.Place.{show-filled}
use Rattle.model.proofs.tree.Tree.{Tree, Left, Away, unused, higher, frame}
use Rattle.model.proofs.tree.Local.{applied, holds-keys, holds-cut, Cut, exchange-11, exchange-12, exchange-21, exchange-22}
use Rattle.model.proofs.tree.Shows.{Some, tree_of}

-- one router or two, by key
pub data Olds : List Pair → Type 0 where
  lone : (r : Pair) → Olds (r ∷ [])
  twin : (r q : Pair) → r.key < q.key → Olds (r ∷ q ∷ [])

exchange-1 : (rs : List Pair) (n : ℕ) → Olds rs → applied (exchange rs (pair (low_key rs) n ∷ [])) rs ≡ pair (low_key rs) n ∷ []
exchange-1 rs n (lone r) = exchange-11 r (pair r.key n)
exchange-1 rs n (twin r q h) = exchange-21 r q (pair r.key n) refl h

exchange-2 : (rs : List Pair) (n : ℕ) (m : Pair) → Olds rs → low_key rs < m.key
    → applied (exchange rs (pair (low_key rs) n ∷ m ∷ [])) rs ≡ pair (low_key rs) n ∷ m ∷ []
exchange-2 rs n m (lone r) g = exchange-12 r (pair r.key n) m refl g
exchange-2 rs n m (twin r q h) g = exchange-22 r q (pair r.key n) m refl h g

abbrev pub Apart : List ℕ → Type 0
Apart [] = Unit {0}
Apart (n ∷ []) = Unit {0}
Apart (n ∷ m ∷ ns) = n ≢ m

some-take : (least w k : ℕ) (us : List Pair) → Some least w us → 1 ≤ k → Some least w (take k us)
some-take least w zero us s h = absurd (omega arith)
some-take least w (suc k) [] s h = absurd (none s.is)
  where
    none : ◌≡◌ {A = List Pair} [] (s.first ∷ s.others) → ⊥
    none e = let z : ◌≡◌ {A = ℕ} 0 1 = cc in omega arith
some-take least w (suc k) (x ∷ us) s h = record { first = x; others = take k us; is = refl }

module _ (least w : ℕ) (lim : w < alive) where
  -- From ps to qs only pages of which T says so change.
  abbrev pub Moved : (ℕ → Type 0) → List Page → List Page → Type 0
  Moved T ps qs = (m : ℕ) → (page qs m ≡ page ps m) ⊎ T m

  pub moved-set : (T : ℕ → Type 0) (ps qs : List Page) (n : ℕ) (q : Page) → Moved T ps qs → T n → Moved T ps (set qs n q)
  moved-set T ps qs n q f t m = at (same? m n) (f m)
    where
      at : (m ≡ n) ⊎ (m ≢ n) → (page qs m ≡ page ps m) ⊎ T m → (page (set qs n q) m ≡ page ps m) ⊎ T m
      at (inl e) g = inr (subst T (sym e) t)
      at (inr d) (inl e) = inl (get_or-set_other qs n m q free d ∙ e)
      at (inr d) (inr z) = inr z

  -- pages of one level, or spare
  abbrev pub Flat : List Page → ℕ → (ℕ → Type 0) → Type 0
  Flat ps l T = (m : ℕ) → T m → ((page ps m).level ≡ 0) ⊎ ((page ps m).level ≡ suc l)

  pub moved-under : (T : ℕ → Type 0) (ps qs : List Page) (l : ℕ) → Flat ps l T → Moved T ps qs → (a b : ℕ) → Left least w ps qs l a b
  moved-under T ps qs l flat f a b m = at (f m)
    where
      by : ((page ps m).level ≡ 0) ⊎ ((page ps m).level ≡ suc l) → (page qs m ≡ page ps m) ⊎ Away least w ps qs l a b m
      by (inl e) = inr (unused e)
      by (inr e) = inr (higher (omega (arith, e)))

      at : (page qs m ≡ page ps m) ⊎ T m → (page qs m ≡ page ps m) ⊎ Away least w ps qs l a b m
      at (inl e) = inl e
      at (inr t) = by (flat m t)

  -- The pages of the group and spare ones changed, and the new routers lead to trees that show gs.
  pub record Raised (T : ℕ → Type 0) (ps qs : List Page) (l lo hi : ℕ) (olds news gs : List Pair) : Type 0 where
    pub touch : Moved T ps qs
    pub row : Row (Tree least w l qs) hi news lo gs
    pub change : applied (exchange olds news) olds ≡ news

  pub record Use (T : ℕ → Type 0) (ps : List Page) (n : ℕ) : Type 0 where
    pub touched : T n
    pub in_list : n < length ps

  abbrev pub Uses : (ℕ → Type 0) → List Page → List ℕ → Type 0
  Uses T ps [] = Unit {0}
  Uses T ps (n ∷ ns) = Use T ps n × Uses T ps ns

  abbrev pub RebuiltShows : (ℕ → Type 0) → List Page → ℕ → ℕ → ℕ → List Pair → List Pair → Rebuilt → Type 0
  RebuiltShows T ps l lo hi olds gs (rebuilt qs news) = Raised T ps qs l lo hi olds news gs
  RebuiltShows T ps l lo hi olds gs short = Unit {0}

  -- a page written with what holds there
  new-tree : (ps qs : List Page) (l a b n level : ℕ) (us zs : List Pair) → level ≡ suc l → a < b → least ≤ length us
      → page qs n ≡ filled w level us → Some least w us → Holds least w l qs a b us zs
      → Tree least w l qs a b n zs
  new-tree ps qs l a b n level us zs e room enough wrote s h =
      let shown : pairs_at w (page qs n) ≡ us = ap (pairs_at w) wrote ∙ show-filled w lim level us in
      tree_of least w qs l a b n zs room (ap (λ (p : Page). p.level) wrote ∙ e)
      (record {
        lives = subst (λ (p : Page). within p.start p.end w ≡ true) (sym wrote)
            (both-intro _ _ (le-leb w w (omega arith)) (lt-ltb w alive lim));
        many = subst (λ (vs : List Pair). least ≤ length vs) (sym shown) enough;
      })
      (subst (Some least w) (sym shown) s)
      (subst (λ (vs : List Pair). Holds least w l qs a b vs zs) (sym shown) h)

  module _ (T : ℕ → Type 0) (ps : List Page) (l lo hi level : ℕ) (rs gs : List Pair) (e : level ≡ suc l) (room : lo < hi)
      (low : low_key rs ≡ lo)
      (flat : Flat ps l T) (f : Moved T ps (retire w ps rs)) (long : length (retire w ps rs) ≡ length ps) (shape : Olds rs) where
    raise-one : (us : List Pair) (n : ℕ) → least ≤ length us → Use T ps n → Some least w us → Holds least w l ps lo hi us gs
        → Raised T ps (set (retire w ps rs) n (filled w level us)) l lo hi rs (pair (low_key rs) n ∷ []) gs
    raise-one us n enough u s h =
        let qs : List Page = set (retire w ps rs) n (filled w level us) in
        let t : Moved T ps qs = moved-set T ps (retire w ps rs) n (filled w level us) f u.touched in
        let wrote : page qs n ≡ filled w level us
        = get_or-set_same (retire w ps rs) n (filled w level us) free (subst (λ (k : ℕ). n < k) (sym long) u.in_list) in
        record {
          touch = t;
          row = record {
            mid = hi;
            mine = gs;
            others = [];
            low = low;
            room = room;
            here = new-tree ps qs l lo hi n level us gs e room enough wrote s
                (frame least w ps qs l lo hi us gs (moved-under T ps qs l flat t lo hi) h);
            rest = record { met = refl; nothing = refl };
            all_of = sym (append-nil gs);
          };
          change = exchange-1 rs n shape;
        }

    raise-two : (us : List Pair) (v : Pair) (vs ys : List Pair) (n m : ℕ) → ys ≡ v ∷ vs → least ≤ length us → least ≤ length ys → Use T ps n
        → Use T ps m → n ≢ m → Some least w us → Cut least w ps l lo hi us v vs gs
        → Raised T ps (set (set (retire w ps rs) n (filled w level us)) m (filled w level ys)) l lo hi rs
        (pair (low_key rs) n ∷ pair (low_key ys) m ∷ []) gs
    raise-two us v vs ys n m split many₁ many₂ u x apart s c =
        let q₁ : List Page = set (retire w ps rs) n (filled w level us) in
        let qs : List Page = set q₁ m (filled w level ys) in
        let t₁ : Moved T ps q₁ = moved-set T ps (retire w ps rs) n (filled w level us) f u.touched in
        let t : Moved T ps qs = moved-set T ps q₁ m (filled w level ys) t₁ x.touched in
        let at_n : page qs n ≡ filled w level us =
        get_or-set_other q₁ m n (filled w level ys) free apart
        ∙ get_or-set_same (retire w ps rs) n (filled w level us) free (subst (λ (k : ℕ). n < k) (sym long) u.in_list) in
        let at-m : page qs m ≡ filled w level ys =
        get_or-set_same q₁ m (filled w level ys) free
        (subst (λ (k : ℕ). m < k) (sym (length-set (retire w ps rs) n (filled w level us) ∙ long)) x.in_list) in
        let under : (a b : ℕ) → Left least w ps qs l a b = moved-under T ps qs l flat t in
        let second : low_key ys ≡ v.key = ap low_key split in
        let keys₁ = subst (λ (zs : List Pair). in_range lo v.key zs ≡ true) s.is
        (holds-keys least w ps l lo v.key us c.first c.one) in
        let (fl, fh) = both_true (leb lo s.first.key) (ltb s.first.key v.key)
        (all_cons (λ (z : Pair). within lo v.key z.key) s.first s.others keys₁).0 in
        let lo-v : lo < v.key = omega (arith, leb-true lo s.first.key fl, ltb-true s.first.key v.key fh) in
        let (vl, vh) = both_true (leb v.key v.key) (ltb v.key hi)
        (all_cons (λ (z : Pair). within v.key hi z.key) v vs
        (holds-keys least w ps l v.key hi (v ∷ vs) c.second c.two)).0 in
        let v-hi : v.key < hi = ltb-true v.key hi vh in
        record {
          touch = t;
          row = record {
            mid = v.key;
            mine = c.first;
            others = c.second;
            low = low;
            room = lo-v;
            here = new-tree ps qs l lo v.key n level us c.first e lo-v many₁ at_n s
                (frame least w ps qs l lo v.key us c.first (under lo v.key) c.one);
            rest = record {
              mid = hi;
              mine = c.second;
              others = [];
              low = second;
              room = v-hi;
              here = new-tree ps qs l v.key hi m level ys c.second e v-hi many₂ at-m (record { first = v; others = vs; is = split })
                  (subst (λ (zs : List Pair). Holds least w l qs v.key hi zs c.second) (sym split)
                  (frame least w ps qs l v.key hi (v ∷ vs) c.second (under v.key hi) c.two));
              rest = record { met = refl; nothing = refl };
              all_of = sym (append-nil c.second);
            };
            all_of = c.both;
          };
          change = exchange-2 rs n (pair (low_key ys) m) shape (omega (arith, second, low));
        }

    pub raise-by : 2 ≤ least → (b : Bool) (us : List Pair) (ns : List ℕ) → (b ≡ true → least ≤ length us) → leb (length us) (4 * least) ≡ b
        → Uses T ps ns → Apart ns → Some least w us → Holds least w l ps lo hi us gs
        → RebuiltShows T ps l lo hi rs gs (Rules.rebuild_with w level ps rs (Rules.parts_by b us) ns)
    unfolding Rules.rebuild_with Rules.parts_by
    raise-by two-or-more true us [] enough t u a s h = tt
    raise-by two-or-more true us (n ∷ ns) enough t u a s h = raise-one us n (enough refl) u.0 s h
    raise-by two-or-more false us [] enough t u a s h = tt
    raise-by two-or-more false us (n ∷ []) enough t u a s h = tt
    raise-by two-or-more false us (n ∷ m ∷ ns) enough t u a s h =
        let k : ℕ = (length us + 1) / 2 in
        let big : 4 * least < length us = leb-false (length us) (4 * least) t in
        let split : drop k us ≡ get_or us k (pair 0 0) ∷ drop (suc k) us = drop-cons us k (pair 0 0) (omega arith) in
        let parts : us ≡ take k us ++ (get_or us k (pair 0 0) ∷ drop (suc k) us) = sym (take-append-drop k us)
        ∙ ap (λ (zs : List Pair). take k us ++ zs) split in
        raise-two (take k us) (get_or us k (pair 0 0)) (drop (suc k) us) (drop k us) n m split
        (omega (arith, length-take-le k us (omega arith))) (omega (arith, length-drop k us)) u.0 u.1.0 a
        (some-take least w k us s (omega arith))
        (holds-cut least w ps l lo hi (take k us) (get_or us k (pair 0 0)) (drop (suc k) us) gs
        (subst (λ (zs : List Pair). Holds least w l ps lo hi zs gs) parts h))
