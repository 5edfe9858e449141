-- The way up at the open version: what the trees show.
-- Assumes nothing.
use Prim.Native.Nat.{ℕ, zero, suc, ◌≤◌, ◌<◌}
use native.Mathlib.Omega.{arith}
use mathlib.Core.Bool.{true}
use mathlib.Core.Option.{Option, none, some}
use mathlib.Core.Path.{◌≡◌, refl, ap, ap₂, sym, ◌∙◌, subst}
use mathlib.Core.Logic.{◌⊎◌, inl, inr, ◌≢◌}
use mathlib.Core.List.{List, [], ◌∷◌, ◌++◌, append_assoc, append-nil}
use lib.Dec.{leb, ltb}
use lib.ListN.{length, set}
use lib.Seq.{get_or-set_same, get_or-set_other}
use borrow.Author.Tests.{ltb-true, leb-true}
use Rattle.model.specs.Basic.{all, in_order}
use Rattle.model.specs.declared.Entry.{Entry}
use Rattle.model.specs.declared.Pair.{Pair}
use Rattle.model.specs.Entry.{alive, within}
use Rattle.model.specs.Page.{Page, Change, free, pairs_at, wanted, changed}
use Rattle.model.specs.Store.{page}
use Rattle.model.specs.Sound.{fewest}
use Rattle.model.specs.Walk.{Around, key_limit}
use Rattle.model.specs.Tree.{Fair, Row, Holds, in_range}
use Rattle.model.proofs.lists.Lists.{both_true, all_cons}
use Rattle.model.proofs.lists.Bools.{same?}
use Rattle.model.proofs.tree.Place.{by_key, show-changed}
use Rattle.model.proofs.tree.Tree.{Tree, Away, unused, higher, elsewhere, Left, frame, frame_row, row-append, row-le}
use Rattle.model.proofs.tree.Local.{holds-keys}

-- the page list after a store
pub in_list : (ps : List Page) (n l : ℕ) → (page ps n).level ≡ suc l → n < length ps
in_list [] n l e = absurd (omega (arith, e))
in_list (p ∷ ps) zero l e = omega arith
in_list (p ∷ ps) (suc n) l e = omega (arith, in_list ps n l e)

module _ (least w : ℕ) where
  -- page m is not used, or is of level h and has a key from lo up to hi
  pub data Touched (ps : List Page) (h lo hi m : ℕ) : Type 0 where
    spare : (page ps m).level ≡ 0 → Touched ps h lo hi m
    inside : (page ps m).level ≡ h → (x : Pair) (rest : List Pair) → pairs_at w (page ps m) ≡ x ∷ rest → lo ≤ x.key → x.key < hi
        → Touched ps h lo hi m

  -- from ps to qs only such pages change
  abbrev pub Touch : List Page → List Page → ℕ → ℕ → ℕ → Type 0
  Touch ps qs h lo hi = (m : ℕ) → (page qs m ≡ page ps m) ⊎ Touched ps h lo hi m

  pub touch-set : (ps qs : List Page) (h lo hi n : ℕ) (q : Page) → Touch ps qs h lo hi → Touched ps h lo hi n
      → Touch ps (set qs n q) h lo hi
  touch-set ps qs h lo hi n q f t m = at (same? m n) (f m)
    where
      at : (m ≡ n) ⊎ (m ≢ n) → (page qs m ≡ page ps m) ⊎ Touched ps h lo hi m → (page (set qs n q) m ≡ page ps m) ⊎ Touched ps h lo hi m
      at (inl e) g = inr (subst (Touched ps h lo hi) (sym e) t)
      at (inr d) (inl e) = inl (get_or-set_other qs n m q free d ∙ e)
      at (inr d) (inr z) = inr z

  module _ (ps qs : List Page) (h lo hi : ℕ) (f : Touch ps qs h lo hi) where
    -- trees beside are left, and pages above, and trees below
    pub touch-beside : (g a b : ℕ) → (b ≤ lo) ⊎ (hi ≤ a) → Left least w ps qs g a b
    touch-beside g a b o m = at (f m) o
      where
        at : (page qs m ≡ page ps m) ⊎ Touched ps h lo hi m → (b ≤ lo) ⊎ (hi ≤ a) → (page qs m ≡ page ps m) ⊎ Away least w ps qs g a b m
        at (inl e) o = inl e
        at (inr (spare e)) o = inr (unused e)
        at (inr (inside e x rest s p q)) (inl z) = inr (elsewhere x rest s (inr (omega arith)))
        at (inr (inside e x rest s p q)) (inr z) = inr (elsewhere x rest s (inl (omega arith)))

    pub touch-above : (n : ℕ) → h < (page ps n).level → page qs n ≡ page ps n
    touch-above n l = at (f n)
      where
        at : (page qs n ≡ page ps n) ⊎ Touched ps h lo hi n → page qs n ≡ page ps n
        at (inl e) = e
        at (inr (spare e)) = absurd (omega (arith, e))
        at (inr (inside e x rest s p q)) = absurd (omega (arith, e))

    pub touch-under : (g a b : ℕ) → g < h → Left least w ps qs g a b
    touch-under g a b l m = at (f m)
      where
        at : (page qs m ≡ page ps m) ⊎ Touched ps h lo hi m → (page qs m ≡ page ps m) ⊎ Away least w ps qs g a b m
        at (inl e) = inl e
        at (inr (spare e)) = inr (unused e)
        at (inr (inside e x rest s p q)) = inr (higher (omega (arith, e)))

  -- the pages beside a place, among the routers before and after it
  abbrev pub LastIs : List Pair → Option Pair → Type 0
  LastIs before none = before ≡ []
  LastIs before (some x) = (b : List Pair) × (before ≡ b ++ (x ∷ []))

  abbrev pub HeadIs : List Pair → Option Pair → Type 0
  HeadIs after none = after ≡ []
  HeadIs after (some x) = (a : List Pair) × (after ≡ x ∷ a)

  -- a page that is not the root has a neighbour
  abbrev pub Company : Option Pair → Option Pair → Type 0
  Company x (some y) = Unit {0}
  Company (some x) none = Unit {0}
  Company none none = ⊥

  pub record Tidy (p : Page) : Type 0 where
    pub order : in_order (by_key w) p.entries ≡ true
    pub starts : all (λ (e : Entry). leb e.start w) p.entries ≡ true

  -- The place of page n, which covers lo up to hi, in its parent: the settings before it are xs, those after it ys.
  -- a root l levels above the leaves
  pub record RootFair (l : ℕ) (p : Page) : Type 0 where
    pub lives : within p.start p.end w ≡ true
    pub many : fewest least true l ≤ length (pairs_at w p)

  abbrev pub Standing : List Around → ℕ → Page → Type 0
  Standing [] l p = RootFair l p
  Standing (a ∷ up) l p = Fair least w p

  pub record ParentPlace (Stand : Page → Type 0) (Outer : ℕ → ℕ → ℕ → List Pair → List Pair → Type 0) (ps : List Page) (l lo hi n : ℕ)
      (a : Around) (xs ys : List Pair) : Type 0 where
    pub key : a.own.key ≡ lo
    pub value : a.own.value ≡ n
    pub room : lo < hi
    pub parent : ℕ
    pub low : ℕ
    pub high : ℕ
    pub level : (page ps parent).level ≡ suc (suc l)
    pub tidy : Tidy (page ps parent)
    pub standing : Stand (page ps parent)
    pub before : List Pair
    pub after : List Pair
    pub live : pairs_at w (page ps parent) ≡ before ++ (a.own ∷ after)
    pub befores : List Pair
    pub afters : List Pair
    pub lefts : Row (Tree least w l ps) lo before low befores
    pub rights : Row (Tree least w l ps) high after hi afters
    pub left_is : LastIs before a.left
    pub right_is : HeadIs after a.right
    pub company : Company a.left a.right
    pub out_before : List Pair
    pub out_after : List Pair
    pub outer : Outer low high parent out_before out_after
    pub xs-is : xs ≡ out_before ++ befores
    pub ys-is : ys ≡ afters ++ out_after

  pub record Top (r lo hi n : ℕ) (xs ys : List Pair) : Type 0 where
    pub root : n ≡ r
    pub low : lo ≡ 0
    pub high : hi ≡ key_limit
    pub no-before : xs ≡ []
    pub no-after : ys ≡ []

  abbrev pub Way : List Page → ℕ → ℕ → List Around → ℕ → ℕ → ℕ → List Pair → List Pair → Type 0
  Way ps r l [] lo hi n xs ys = Top r lo hi n xs ys
  Way ps r l (a ∷ up) lo hi n xs ys = ParentPlace (Standing up (suc l)) (Way ps r (suc l) up) ps l lo hi n a xs ys

  -- the way is left by changes below it
  pub way-left : (ps qs : List Page) (h tlo thi r : ℕ) → Touch ps qs h tlo thi → (up : List Around) (l lo hi n : ℕ) (xs ys : List Pair)
      → lo ≤ tlo → thi ≤ hi → h ≤ suc l → Way ps r l up lo hi n xs ys → Way qs r l up lo hi n xs ys
  way-left ps qs h tlo thi r f [] l lo hi n xs ys p q g t = t
  way-left ps qs h tlo thi r f (a ∷ up) l lo hi n xs ys p q g s =
      let e : page qs s.parent ≡ page ps s.parent = touch-above ps qs h tlo thi f s.parent (omega (arith, s.level)) in
      let lowest : s.low ≤ lo = row-le (Tree least w l ps) lo s.before s.low s.befores s.lefts in
      let highest : hi ≤ s.high = row-le (Tree least w l ps) s.high s.after hi s.afters s.rights in
      record {
        key = s.key;
        value = s.value;
        room = s.room;
        parent = s.parent;
        low = s.low;
        high = s.high;
        level = ap (λ (z : Page). z.level) e ∙ s.level;
        tidy = subst Tidy (sym e) s.tidy;
        standing = subst (Standing up (suc l)) (sym e) s.standing;
        before = s.before;
        after = s.after;
        live = ap (pairs_at w) e ∙ s.live;
        befores = s.befores;
        afters = s.afters;
        lefts = frame_row least w ps qs l s.low lo s.before s.befores (touch-beside ps qs h tlo thi f (suc l) s.low lo (inl p))
            s.lefts;
        rights = frame_row least w ps qs l hi s.high s.after s.afters (touch-beside ps qs h tlo thi f (suc l) hi s.high (inr q))
            s.rights;
        left_is = s.left_is;
        right_is = s.right_is;
        company = s.company;
        out_before = s.out_before;
        out_after = s.out_after;
        outer = way-left ps qs h tlo thi r f up (suc l) s.low s.high s.parent s.out_before s.out_after (omega arith)
            (omega arith) (omega arith) s.outer;
        xs-is = s.xs-is;
        ys-is = s.ys-is;
      }

  -- what the root shows
  pub record Shows (ps : List Page) (r : ℕ) (zs : List Pair) : Type 0 where
    pub height : ℕ
    pub level : (page ps r).level ≡ suc height
    pub holds : Holds least w height ps 0 key_limit (pairs_at w (page ps r)) zs
    pub fair : RootFair height (page ps r)

  regroup : (a b c d e : List Pair) → a ++ ((b ++ (c ++ d)) ++ e) ≡ (a ++ b) ++ (c ++ (d ++ e))
  regroup a b c d e = simp append_assoc

  pub record Some (us : List Pair) : Type 0 where
    pub first : Pair
    pub others : List Pair
    pub is : us ≡ first ∷ others

  some-middle : (b : List Pair) (x : Pair) (a : List Pair) → Some (b ++ (x ∷ a))
  some-middle [] x a = record { first = x; others = a; is = refl }
  some-middle (y ∷ b) x a = record { first = y; others = b ++ (x ∷ a); is = refl }

  pub tree_of : (ps : List Page) (l lo hi n : ℕ) (zs : List Pair) → lo < hi → (page ps n).level ≡ suc l → Fair least w (page ps n)
      → Some (pairs_at w (page ps n))
      → Holds least w l ps lo hi (pairs_at w (page ps n)) zs → Tree least w l ps lo hi n zs
  tree_of ps l lo hi n zs room e q s t =
      let i = subst (λ (us : List Pair). in_range lo hi us ≡ true) s.is (holds-keys least w ps l lo hi (pairs_at w (page ps n)) zs t) in
      let (low, high) = both_true (leb lo s.first.key) (ltb s.first.key hi)
      (all_cons (λ (x : Pair). within lo hi x.key) s.first s.others i).0 in
      record {
        level = e;
        room = room;
        first = s.first;
        others = s.others;
        shown = s.is;
        first-low = leb-true lo s.first.key low;
        first-high = ltb-true s.first.key hi high;
        fair = q;
        holds = t;
      }

  -- a page put into its place: what the root shows
  pub plug : (ps : List Page) (r : ℕ) (up : List Around) (l lo hi n : ℕ) (xs ys zs : List Pair) → Way ps r l up lo hi n xs ys
      → (page ps n).level ≡ suc l
      → Standing up l (page ps n) → Some (pairs_at w (page ps n)) → Holds least w l ps lo hi (pairs_at w (page ps n)) zs
      → Shows ps r (xs ++ (zs ++ ys))
  plug ps r [] l lo hi n xs ys zs t e z s h =
      let h₁ = subst (λ (m : ℕ). Holds least w l ps lo hi (pairs_at w (page ps m)) zs) t.root h in
      let h₂ = subst (λ (k : ℕ). Holds least w l ps k hi (pairs_at w (page ps r)) zs) t.low h₁ in
      let h₃ = subst (λ (k : ℕ). Holds least w l ps 0 k (pairs_at w (page ps r)) zs) t.high h₂ in
      let all_of : xs ++ (zs ++ ys) ≡ zs = rw (t.no-before, t.no-after, append-nil) in
      record {
        height = l;
        level = subst (λ (m : ℕ). (page ps m).level ≡ suc l) t.root e;
        holds = subst (λ (us : List Pair). Holds least w l ps 0 key_limit (pairs_at w (page ps r)) us) (sym all_of) h₃;
        fair = subst (λ (m : ℕ). RootFair l (page ps m)) t.root z;
      }
  plug ps r (a ∷ up) l lo hi n xs ys zs p e z s h =
      let own : Tree least w l ps lo hi n zs = tree_of ps l lo hi n zs p.room e z s h in
      let row : Row (Tree least w l ps) p.high (p.before ++ (a.own ∷ p.after)) p.low (p.befores ++ (zs ++ p.afters)) =
      row-append (Tree least w l ps) p.high lo p.before (a.own ∷ p.after) p.low p.befores (zs ++ p.afters) p.lefts
      (record {
        mid = hi;
        mine = zs;
        others = p.afters;
        low = p.key;
        room = p.room;
        here = subst (λ (m : ℕ). Tree least w l ps lo hi m zs) (sym p.value) own;
        rest = p.rights;
        all_of = refl;
      }) in
      subst (Shows ps r)
      (regroup p.out_before p.befores zs p.afters p.out_after
      ∙ ap₂ ◌++◌ (sym p.xs-is) (ap (λ (us : List Pair). zs ++ us) (sym p.ys-is)))
      (plug ps r up (suc l) p.low p.high p.parent p.out_before p.out_after (p.befores ++ (zs ++ p.afters)) p.outer
      p.level p.standing
      (subst Some (sym p.live) (some-middle p.before a.own p.after))
      (subst (λ (us : List Pair). Row (Tree least w l ps) p.high us p.low (p.befores ++ (zs ++ p.afters))) (sym p.live) row))

  -- a page that takes its change in place
  pub settle : w < alive → (ps : List Page) (r : ℕ) (a : Around) (up : List Around) (l lo hi n : ℕ) (c : Change) (xs ys zs : List Pair)
      → Way ps r l (a ∷ up) lo hi n xs ys → (page ps n).level ≡ suc l → Tidy (page ps n) → Touched ps (suc l) lo hi n
      → within (page ps n).start (page ps n).end w ≡ true → least ≤ length (wanted w c (page ps n))
      → Some (wanted w c (page ps n)) → Holds least w l ps lo hi (wanted w c (page ps n)) zs
      → Shows (set ps n (changed w c (page ps n))) r (xs ++ (zs ++ ys))
  settle lim ps r a up l lo hi n c xs ys zs p e t anchored alive-now enough s h =
      let q : Page = changed w c (page ps n) in
      let qs : List Page = set ps n q in
      let f : Touch ps qs (suc l) lo hi = touch-set ps ps (suc l) lo hi n q (λ m. inl refl) anchored in
      let wrote : page qs n ≡ q = get_or-set_same ps n q free (in_list ps n l e) in
      let shown : pairs_at w (page qs n) ≡ wanted w c (page ps n) = ap (pairs_at w) wrote
      ∙ show-changed w lim c (page ps n) t.order t.starts in
      plug qs r (a ∷ up) l lo hi n xs ys zs
      (way-left ps qs (suc l) lo hi r f (a ∷ up) l lo hi n xs ys (omega arith) (omega arith) (omega arith) p)
      (ap (λ (z : Page). z.level) wrote ∙ e)
      (record {
        lives = subst (λ (z : Page). within z.start z.end w ≡ true) (sym wrote) alive-now;
        many = subst (λ (us : List Pair). least ≤ length us) (sym shown) enough;
      }) (subst Some (sym shown) s)
      (subst (λ (us : List Pair). Holds least w l qs lo hi us zs) (sym shown)
      (frame least w ps qs l lo hi (wanted w c (page ps n)) zs (touch-under ps qs (suc l) lo hi f l lo hi (omega arith)) h))
