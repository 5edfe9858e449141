-- The way up at the open version, step by step: the root shows the change.
-- Assumes nothing.
use Prim.Native.Nat.{ℕ, zero, suc, ◌*◌, ◌≤◌, ◌<◌}
use native.Mathlib.Omega.{arith}
use mathlib.Core.Bool.{Bool, true, false, ◌&&◌}
use mathlib.Core.Option.{Option, none, some}
use mathlib.Core.Path.{◌≡◌, refl, ap, ap₂, sym, ◌∙◌, subst}
use mathlib.Core.Logic.{◌⊎◌, inl, inr, ◌≢◌}
use mathlib.Core.List.{List, [], ◌∷◌, ◌++◌, map, append_assoc, append-nil}
use lib.Dec.{leb, ltb, lit<}
use lib.ListN.{length, set, length-append}
use lib.Seq.{get_or-set_same}
use borrow.Author.Tests.{ltb-false, leb-true, leb-false, le-leb, lt-ltb}
use Rattle.model.specs.Basic.{all, those, keep}
use Rattle.model.specs.declared.Pair.{Pair}
use Rattle.model.specs.Entry.{pair, alive, within}
use Rattle.model.specs.Page.{Page, Change, free, pairs_at, wanted, changed, filled}
use Rattle.model.specs.Store.{page, free_ones}
use Rattle.model.specs.Walk.{Around, key_limit}
use Rattle.model.specs.Sound.{fewest}
use Rattle.model.proofs.lists.Members.{not-both}
use Rattle.model.specs.Rules
use Rattle.model.specs.Climb
use Rattle.model.specs.Rules.{Group, one, retire, Rebuilt, rebuilt, short, low_key, exchange, Worked, settled, upward, lacking, roomy}
use Rattle.model.specs.Rules.{work}
use Rattle.model.specs.Climb.{Rooted, stays, moves, lacks, go_on, climb, work_root}
use Rattle.model.specs.Tree.{Row, Holds, in_range}
use Rattle.model.proofs.lists.Lists.{both_true, both-intro, all_cons}
use Rattle.model.proofs.tree.Place.{show-changed, show-filled}
use Rattle.model.proofs.tree.Tree.{Tree, Away, unused, frame, frame_row, row-append, row-split, row-keys, row-le}
use Rattle.model.proofs.tree.Local.{applied, applied-between, holds-append}
use Rattle.model.proofs.tree.Shows.{in_list, Touched, spare, inside, touch-beside, touch-above, LastIs, HeadIs, Company, Tidy}
use Rattle.model.proofs.tree.Shows.{Standing, ParentPlace, Top, Way, way-left, Shows, Some, settle}
use Rattle.model.proofs.tree.GroupShows.{Olds, lone, twin, Moved, moved-set, moved-under, Raised, Uses, RebuiltShows, raise-by}
use Rattle.model.proofs.tree.Numbers.{Member, Members, moved-retire, length-retire, uses-usable, apart-usable, Unlike, Frees}
use Rattle.model.proofs.tree.Numbers.{frees_all}

-- what an exchange drops and takes lies where the routers lie
keys_in : (lo hi : ℕ) (f : Pair → Bool) (xs : List Pair) → in_range lo hi xs ≡ true
    → all (within lo hi) (map (λ (x : Pair). x.key) (those f xs)) ≡ true
keys_in lo hi f [] i = refl
keys_in lo hi f (x ∷ xs) i =
    at (f x) (all_cons (λ (y : Pair). within lo hi y.key) x xs i).0
    (keys_in lo hi f xs (all_cons (λ (y : Pair). within lo hi y.key) x xs i).1)
  where
    at : (b : Bool) → within lo hi x.key ≡ true → all (within lo hi) (map (λ (y : Pair). y.key) (those f xs)) ≡ true
        → all (within lo hi) (map (λ (y : Pair). y.key) (keep b x (those f xs))) ≡ true
    at true h ih = both-intro _ _ h ih
    at false h ih = ih

those-in : (lo hi : ℕ) (f : Pair → Bool) (xs : List Pair) → in_range lo hi xs ≡ true → in_range lo hi (those f xs) ≡ true
those-in lo hi f [] i = refl
those-in lo hi f (x ∷ xs) i =
    at (f x) (all_cons (λ (y : Pair). within lo hi y.key) x xs i).0
    (those-in lo hi f xs (all_cons (λ (y : Pair). within lo hi y.key) x xs i).1)
  where
    at : (b : Bool) → within lo hi x.key ≡ true → in_range lo hi (those f xs) ≡ true → in_range lo hi (keep b x (those f xs)) ≡ true
    at true h ih = both-intro _ _ h ih
    at false h ih = ih

module _ (least : ℕ) (two-or-more : 2 ≤ least) (w : ℕ) (lim : w < alive) where
  abbrev pub Anchor : List Page → ℕ → List Around → ℕ → ℕ → ℕ → Change → Type 0
  Anchor ps l [] lo hi n c = roomy least w c (page ps n) ≡ false → Some least w (wanted w c (page ps n))
  Anchor ps l (a ∷ up) lo hi n c = Touched least w ps (suc l) lo hi n

  -- a page that is not the root lacks at most one pair
  abbrev pub Nearly : List Around → List Pair → Type 0
  Nearly [] us = Unit {0}
  Nearly (a ∷ up) us = least ≤ suc (length us)

  -- a change that page n, l levels above the leaves, has to take; once it has, the root shows `total`
  pub record Pending (ps : List Page) (r l : ℕ) (up : List Around) (c : Change) (total : List Pair) : Type 0 where
    pub lo : ℕ
    pub hi : ℕ
    pub n : ℕ
    pub xs : List Pair
    pub ys : List Pair
    pub zs : List Pair
    pub way : Way least w ps r l up lo hi n xs ys
    pub level : (page ps n).level ≡ suc l
    pub tidy : Tidy least w (page ps n)
    pub lives : within (page ps n).start (page ps n).end w ≡ true
    pub nearly : Nearly up (wanted w c (page ps n))
    pub anchor : Anchor ps l up lo hi n c
    pub holds : Holds least w l ps lo hi (wanted w c (page ps n)) zs
    pub is : total ≡ xs ++ (zs ++ ys)

  -- the pages that are rebuilt together, among the routers of their parent
  pub record RebuiltGroup (ps : List Page) (r l : ℕ) (up : List Around) (total rs us : List Pair) : Type 0 where
    pub lo : ℕ
    pub hi : ℕ
    pub gs : List Pair
    pub shape : Olds rs
    pub low-key : low_key rs ≡ lo
    pub room : lo < hi
    pub members : Members least w lim (Touched least w ps (suc l) lo hi) ps l (λ m e. spare e) rs
    pub unlike : Unlike least w lim (Touched least w ps (suc l) lo hi) ps l (λ m e. spare e) rs
    pub some-us : Some least w us
    pub holds : Holds least w l ps lo hi us gs
    pub in-range : in_range lo hi rs ≡ true
    pub parent : ℕ
    pub low : ℕ
    pub high : ℕ
    pub level : (page ps parent).level ≡ suc (suc l)
    pub tidy : Tidy least w (page ps parent)
    pub standing : Standing least w up (suc l) (page ps parent)
    -- "a gathered page holds 7" at least
    pub enough : 2 * least ≤ suc (length us)
    pub before : List Pair
    pub after : List Pair
    pub live : pairs_at w (page ps parent) ≡ before ++ (rs ++ after)
    pub befores : List Pair
    pub afters : List Pair
    pub lefts : Row (Tree least w l ps) lo before low befores
    pub rights : Row (Tree least w l ps) high after hi afters
    pub out_before : List Pair
    pub out_after : List Pair
    pub outer : Way least w ps r (suc l) up low high parent out_before out_after
    pub is : total ≡ out_before ++ ((befores ++ (gs ++ afters)) ++ out_after)

  -- the first router of a page has the page's low key
  pub record FirstLow (low : ℕ) (us : List Pair) : Type 0 where
    pub first : Pair
    pub others : List Pair
    pub is : us ≡ first ∷ others
    pub key : first.key ≡ low

  pub first-low : (ps : List Page) (l lo low : ℕ) (before rs after befores : List Pair) → Row (Tree least w l ps) lo before low befores
      → Olds rs → low_key rs ≡ lo → FirstLow low (before ++ (rs ++ after))
  first-low ps l lo low [] rs after befores t (lone r) e = record { first = r; others = after; is = refl; key = e ∙ sym t.met }
  first-low ps l lo low [] rs after befores t (twin r q h) e = record { first = r; others = q ∷ after; is = refl; key = e ∙ sym t.met }
  first-low ps l lo low (b ∷ before) rs after befores t o e =
      record { first = b; others = before ++ (rs ++ after); is = refl; key = t.low }

  pub some-row : (ps : List Page) (l lo hi : ℕ) (rs zs : List Pair) → lo < hi → Row (Tree least w l ps) hi rs lo zs → Some least w rs
  some-row ps l lo hi [] zs h t = absurd (omega (arith, t.met))
  some-row ps l lo hi (x ∷ rs) zs h t = record { first = x; others = rs; is = refl }

  pub anchor-of : (ps : List Page) (l : ℕ) (up : List Around) (lo hi n : ℕ) (c : Change) → (page ps n).level ≡ suc l → lo < hi
      → FirstLow lo (pairs_at w (page ps n)) → Some least w (wanted w c (page ps n))
      → Anchor ps l up lo hi n c
  anchor-of ps l [] lo hi n c e room f s = λ h. s
  anchor-of ps l (a ∷ up) lo hi n c e room f s = inside e f.first f.others f.is (omega (arith, f.key)) (omega (arith, f.key))

  pub standing-lives : (up : List Around) (l : ℕ) (p : Page) → Standing least w up l p → within p.start p.end w ≡ true
  standing-lives [] l p s = s.lives
  standing-lives (a ∷ up) l p s = s.lives

  pub nearly-by : (up : List Around) (l : ℕ) (p : Page) (us : List Pair) → Standing least w up l p → length (pairs_at w p) ≤ suc (length us)
      → Nearly up us
  nearly-by [] l p us s h = tt
  nearly-by (a ∷ up) l p us s h = omega (arith, s.many)

  pub one_less : (before rs news after : List Pair) → Olds rs → Some least w news
      → length (before ++ (rs ++ after)) ≤ suc (length (before ++ (news ++ after)))
  one_less before rs news after o s = simp length-append (omega (arith, short o, ap (λ (zs : List Pair). length zs) s.is))
    where
      short : {qs : List Pair} → Olds qs → length qs ≤ 2
      short (lone r) = omega arith
      short (twin r q h) = omega arith

  -- the parent's wanted list
  pub made_of : (ps qs : List Page) (r l : ℕ) (up : List Around) (total rs us news : List Pair) (g : RebuiltGroup ps r l up total rs us)
      → Raised least w lim (Touched least w ps (suc l) g.lo g.hi) ps qs l g.lo g.hi rs news g.gs
      → wanted w (exchange rs news) (page qs g.parent) ≡ g.before ++ (news ++ g.after)
  unfolding Rules.exchange
  made_of ps qs r l up total rs us news g t =
      let e : page qs g.parent ≡ page ps g.parent
      = touch-above least w ps qs (suc l) g.lo g.hi t.touch g.parent (omega (arith, g.level)) in
      ap (applied (exchange rs news)) (ap (pairs_at w) e ∙ g.live)
      ∙ applied-between g.lo g.hi g.low g.high (exchange rs news) (keys_in g.lo g.hi _ rs g.in-range)
      (those-in g.lo g.hi _ news (row-keys (Tree least w l qs) g.hi news g.lo g.gs t.row)) g.before rs g.after
      (row-keys (Tree least w l ps) g.lo g.before g.low g.befores g.lefts)
      (row-keys (Tree least w l ps) g.high g.after g.hi g.afters g.rights)
      ∙ ap (λ (zs : List Pair). g.before ++ (zs ++ g.after)) t.change

  -- the parent's turn
  unfoldable pub rise : (ps qs : List Page) (r l : ℕ) (up : List Around) (total rs us news : List Pair)
      (g : RebuiltGroup ps r l up total rs us)
      → Raised least w lim (Touched least w ps (suc l) g.lo g.hi) ps qs l g.lo g.hi rs news g.gs
      → Pending qs r (suc l) up (exchange rs news) total
  unfolding Rules.exchange
  rise ps qs r l up total rs us news g t =
      let c : Change = exchange rs news in
      let lowest : g.low ≤ g.lo = row-le (Tree least w l ps) g.lo g.before g.low g.befores g.lefts in
      let highest : g.hi ≤ g.high = row-le (Tree least w l ps) g.high g.after g.hi g.afters g.rights in
      let room : g.low < g.high = omega (arith, g.room) in
      let e : page qs g.parent ≡ page ps g.parent
      = touch-above least w ps qs (suc l) g.lo g.hi t.touch g.parent (omega (arith, g.level)) in
      let level : (page qs g.parent).level ≡ suc (suc l) = ap (λ (p : Page). p.level) e ∙ g.level in
      let shown : pairs_at w (page qs g.parent) ≡ g.before ++ (rs ++ g.after) = ap (pairs_at w) e ∙ g.live in
      let made : wanted w c (page qs g.parent) ≡ g.before ++ (news ++ g.after) = made_of ps qs r l up total rs us news g t in
      let row : Row (Tree least w l qs) g.high (g.before ++ (news ++ g.after)) g.low (g.befores ++ (g.gs ++ g.afters)) =
      row-append (Tree least w l qs) g.high g.lo g.before (news ++ g.after) g.low g.befores (g.gs ++ g.afters)
      (frame_row least w ps qs l g.low g.lo g.before g.befores
      (touch-beside least w ps qs (suc l) g.lo g.hi t.touch (suc l) g.low g.lo (inl (omega arith))) g.lefts)
      (row-append (Tree least w l qs) g.high g.hi news g.after g.lo g.gs g.afters t.row
      (frame_row least w ps qs l g.hi g.high g.after g.afters
      (touch-beside least w ps qs (suc l) g.lo g.hi t.touch (suc l) g.hi g.high (inr (omega arith))) g.rights)) in
      record {
        lo = g.low;
        hi = g.high;
        n = g.parent;
        xs = g.out_before;
        ys = g.out_after;
        zs = g.befores ++ (g.gs ++ g.afters);
        way = way-left least w ps qs (suc l) g.lo g.hi r t.touch up (suc l) g.low g.high g.parent g.out_before
            g.out_after lowest highest (omega arith) g.outer;
        level = level;
        tidy = subst (Tidy least w) (sym e) g.tidy;
        lives = subst (λ (p : Page). within p.start p.end w ≡ true) (sym e)
            (standing-lives up (suc l) (page ps g.parent) g.standing);
        nearly = nearly-by up (suc l) (page ps g.parent) _ g.standing
            (subst (λ (zs : List Pair). length (pairs_at w (page ps g.parent)) ≤ suc (length zs)) (sym made)
            (subst (λ (zs : List Pair). length zs ≤ suc (length (g.before ++ (news ++ g.after)))) (sym g.live)
            (one_less g.before rs news g.after g.shape (some-row qs l g.lo g.hi news g.gs g.room t.row))));
        anchor = anchor-of qs (suc l) up g.low g.high g.parent c level room
            (subst (FirstLow g.low) (sym shown)
            (first-low ps l g.lo g.low g.before rs g.after g.befores g.lefts g.shape g.low-key))
            (subst (Some least w) (sym made) (some-row qs l g.low g.high _ _ room row));
        holds = subst (λ (zs : List Pair). Row (Tree least w l qs) g.high zs g.low (g.befores ++ (g.gs ++ g.afters)))
            (sym made) row;
        is = g.is;
      }

  -- members of a group
  wider : (ps : List Page) (h lo hi a b m : ℕ) → a ≤ lo → hi ≤ b → Touched least w ps h lo hi m → Touched least w ps h a b m
  wider ps h lo hi a b m p q (spare e) = spare e
  wider ps h lo hi a b m p q (inside e x rest s u v) = inside e x rest s (omega arith) (omega arith)

  pub touched-tree : (ps : List Page) (l a b lo hi n : ℕ) (xs : List Pair) → lo ≤ a → b ≤ hi → Tree least w l ps a b n xs
      → Touched least w ps (suc l) lo hi n
  touched-tree ps l a b lo hi n xs p q t =
      inside t.level t.first t.others t.shown (omega (arith, t.first-low)) (omega (arith, t.first-high))

  pub apart-tree : (ps : List Page) (l lo hi a b n m : ℕ) (xs : List Pair) → (page ps n).level ≡ suc l → Touched least w ps (suc l) lo hi n
      → Tree least w l ps a b m xs → (b ≤ lo) ⊎ (hi ≤ a) → n ≢ m
  apart-tree ps l lo hi a b n m xs e (spare z) t o same = omega (arith, e, z)
  apart-tree ps l lo hi a b n m xs e (inside z x rest s u v) t o same = at o
    where
      one : x ≡ t.first
      one = let p : pairs_at w (page ps n) ≡ pairs_at w (page ps m) = ap (λ (i : ℕ). pairs_at w (page ps i)) same in cc (s, t.shown, p)

      at : (b ≤ lo) ⊎ (hi ≤ a) → ⊥
      at (inl p) = omega (arith, ap (λ (y : Pair). y.key) one, t.first-high)
      at (inr p) = omega (arith, ap (λ (y : Pair). y.key) one, t.first-low)

  in_one : (lo hi : ℕ) (x : Pair) → lo ≤ x.key → x.key < hi → within lo hi x.key ≡ true
  in_one lo hi x p q = both-intro _ _ (le-leb lo x.key p) (lt-ltb x.key hi q)

  regroup-right : (a b c d e f : List Pair) → a ++ ((b ++ (c ++ (d ++ e))) ++ f) ≡ a ++ ((b ++ ((c ++ d) ++ e)) ++ f)
  regroup-right a b c d e f = simp append_assoc

  regroup-left : (a b c d e f : List Pair) → a ++ (((b ++ c) ++ (d ++ e)) ++ f) ≡ a ++ ((b ++ ((c ++ d) ++ e)) ++ f)
  regroup-left a b c d e f = simp append_assoc

  regroup-all : (a b c d e : List Pair) → (a ++ b) ++ (c ++ (d ++ e)) ≡ a ++ ((b ++ (c ++ d)) ++ e)
  regroup-all a b c d e = simp append_assoc

  module _ (ps : List Page) (r l : ℕ) (a : Around) (up : List Around) (c : Change) (total : List Pair)
      (p : Pending ps r l (a ∷ up) c total) where
    abbrev pub want : List Pair
    want = wanted w c (page ps p.n)

    abbrev pub s : ParentPlace least w (Standing least w up (suc l)) (Way least w ps r (suc l) up) ps l p.lo p.hi p.n a p.xs
        p.ys
    s = p.way

    own_at : (lo hi : ℕ) → lo ≤ p.lo → p.hi ≤ hi
        → Member least w lim (Touched least w ps (suc l) lo hi) ps l (λ m e. spare e) a.own.value
    own_at lo hi x y = subst (Member least w lim (Touched least w ps (suc l) lo hi) ps l (λ m e. spare e)) (sym s.value)
        (record {
          touched = wider ps (suc l) p.lo p.hi lo hi p.n x y p.anchor;
          in_list = in_list ps p.n l p.level;
          level = p.level;
        })

    total-as : total ≡ s.out_before ++ ((s.befores ++ (p.zs ++ s.afters)) ++ s.out_after)
    total-as =
        p.is ∙ ap₂ ◌++◌ s.xs-is (ap (λ (zs : List Pair). p.zs ++ zs) s.ys-is)
        ∙ regroup-all s.out_before s.befores p.zs s.afters s.out_after

    own_in : (lo hi : ℕ) → lo ≤ p.lo → p.hi ≤ hi → within lo hi a.own.key ≡ true
    own_in lo hi x y = in_one lo hi a.own (omega (arith, s.key)) (omega (arith, s.key, s.room))

    alone : Some least w want → 2 * least ≤ suc (length want) → RebuiltGroup ps r l up total (a.own ∷ []) want
    alone some-want enough = record {
      lo = p.lo;
      hi = p.hi;
      gs = p.zs;
      shape = lone a.own;
      low-key = s.key;
      room = s.room;
      members = (own_at p.lo p.hi (omega arith) (omega arith), tt);
      unlike = tt;
      some-us = some-want;
      holds = p.holds;
      in-range = both-intro _ _ (own_in p.lo p.hi (omega arith) (omega arith)) refl;
      parent = s.parent;
      low = s.low;
      high = s.high;
      level = s.level;
      tidy = s.tidy;
      standing = s.standing;
      enough = enough;
      before = s.before;
      after = s.after;
      live = s.live;
      befores = s.befores;
      afters = s.afters;
      lefts = s.lefts;
      rights = s.rights;
      out_before = s.out_before;
      out_after = s.out_after;
      outer = s.outer;
      is = total-as;
    }

    some-append : (us : List Pair) (v : Pair) (vs : List Pair) → Some least w (us ++ (v ∷ vs))
    some-append [] v vs = record { first = v; others = vs; is = refl }
    some-append (u ∷ us) v vs = record { first = u; others = us ++ (v ∷ vs); is = refl }

    with-right : (x : Pair) (after : List Pair) → s.after ≡ x ∷ after
        → RebuiltGroup ps r l up total (a.own ∷ x ∷ []) (want ++ pairs_at w (page ps x.value))
    with-right x after e =
        let t : Row (Tree least w l ps) s.high (x ∷ after) p.hi s.afters
        = subst (λ (zs : List Pair). Row (Tree least w l ps) s.high zs p.hi s.afters) e s.rights in
        let far : t.mid ≤ s.high = row-le (Tree least w l ps) s.high after t.mid t.others t.rest in
        record {
          lo = p.lo;
          hi = t.mid;
          gs = p.zs ++ t.mine;
          shape = twin a.own x (omega (arith, s.key, s.room, t.low));
          low-key = s.key;
          room = omega (arith, s.room, t.room);
          members = (
            own_at p.lo t.mid (omega arith) (omega (arith, t.room)),
            (
              record {
                touched = touched-tree ps l p.hi t.mid p.lo t.mid x.value t.mine (omega (arith, s.room)) (omega arith)
                    t.here;
                in_list = in_list ps x.value l t.here.level;
                level = t.here.level;
              },
              tt,
            ),
          );
          unlike = subst (λ (i : ℕ). i ≢ x.value) (sym s.value)
              (apart-tree ps l p.lo p.hi p.hi t.mid p.n x.value t.mine p.level p.anchor t.here
              (inr (omega arith)));
          some-us = subst (λ (zs : List Pair). Some least w (want ++ zs)) (sym t.here.shown)
              (some-append want t.here.first t.here.others);
          holds = holds-append least w ps l p.lo p.hi t.mid want (pairs_at w (page ps x.value)) p.zs t.mine
              (omega (arith, s.room)) (omega (arith, t.room)) p.holds t.here.holds;
          in-range = both-intro _ _ (own_in p.lo t.mid (omega arith) (omega (arith, t.room)))
              (both-intro _ _ (in_one p.lo t.mid x (omega (arith, t.low, s.room)) (omega (arith, t.low, t.room))) refl);
          parent = s.parent;
          low = s.low;
          high = s.high;
          level = s.level;
          tidy = s.tidy;
          standing = s.standing;
          enough = simp length-append (omega (arith, p.nearly, t.here.fair.many));
          before = s.before;
          after = after;
          live = s.live ∙ ap (λ (zs : List Pair). s.before ++ (a.own ∷ zs)) e;
          befores = s.befores;
          afters = t.others;
          lefts = s.lefts;
          rights = t.rest;
          out_before = s.out_before;
          out_after = s.out_after;
          outer = s.outer;
          is = total-as ∙ ap (λ (zs : List Pair). s.out_before ++ ((s.befores ++ (p.zs ++ zs)) ++ s.out_after)) t.all_of
              ∙ regroup-right s.out_before s.befores p.zs t.mine t.others s.out_after;
        }

    with-left : (x : Pair) (before : List Pair) → s.before ≡ before ++ (x ∷ [])
        → RebuiltGroup ps r l up total (x ∷ a.own ∷ []) (pairs_at w (page ps x.value) ++ want)
    with-left x before e =
        let t = row-split (Tree least w l ps) p.lo before (x ∷ []) s.low s.befores
        (subst (λ (zs : List Pair). Row (Tree least w l ps) p.lo zs s.low s.befores) e s.lefts) in
        let k = t.two in
        let tree : Tree least w l ps t.mid p.lo x.value t.second =
        subst (λ (zs : List Pair). Tree least w l ps t.mid p.lo x.value zs)
        (sym (k.all_of ∙ ap (λ (zs : List Pair). k.mine ++ zs) k.rest.nothing ∙ append-nil k.mine))
        (subst (λ (i : ℕ). Tree least w l ps t.mid i x.value k.mine) k.rest.met k.here) in
        let less : t.mid < p.lo = tree.room in
        record {
          lo = t.mid;
          hi = p.hi;
          gs = t.second ++ p.zs;
          shape = twin x a.own (omega (arith, s.key, k.low));
          low-key = k.low;
          room = omega (arith, s.room);
          members = (
            record {
              touched = touched-tree ps l t.mid p.lo t.mid p.hi x.value t.second (omega arith)
                  (omega (arith, s.room)) tree;
              in_list = in_list ps x.value l tree.level;
              level = tree.level;
            },
            (own_at t.mid p.hi (omega arith) (omega arith), tt),
          );
          unlike = λ (z : x.value ≡ a.own.value).
              apart-tree ps l p.lo p.hi t.mid p.lo p.n x.value t.second p.level p.anchor tree (inl (omega arith))
              (sym s.value ∙ sym z);
          some-us = some_first (pairs_at w (page ps x.value)) want tree.first tree.others tree.shown;
          holds = holds-append least w ps l t.mid p.lo p.hi (pairs_at w (page ps x.value)) want t.second p.zs (omega arith)
              (omega (arith, s.room)) tree.holds p.holds;
          in-range = both-intro _ _ (in_one t.mid p.hi x (omega (arith, k.low)) (omega (arith, k.low, s.room)))
              (both-intro _ _ (own_in t.mid p.hi (omega arith) (omega arith)) refl);
          parent = s.parent;
          low = s.low;
          high = s.high;
          level = s.level;
          tidy = s.tidy;
          standing = s.standing;
          enough = simp length-append (omega (arith, p.nearly, tree.fair.many));
          before = before;
          after = s.after;
          live = s.live ∙ ap (λ (zs : List Pair). zs ++ (a.own ∷ s.after)) e ∙ append_assoc before (x ∷ []) (a.own ∷ s.after);
          befores = t.first;
          afters = s.afters;
          lefts = t.one;
          rights = s.rights;
          out_before = s.out_before;
          out_after = s.out_after;
          outer = s.outer;
          is = total-as ∙ ap (λ (zs : List Pair). s.out_before ++ ((zs ++ (p.zs ++ s.afters)) ++ s.out_after)) t.both
              ∙ regroup-left s.out_before t.first t.second p.zs s.afters s.out_after;
        }
      where
        some_first : (us vs : List Pair) (x : Pair) (xs : List Pair) → us ≡ x ∷ xs → Some least w (us ++ vs)
        some_first us vs x xs e = record { first = x; others = xs ++ vs; is = ap (λ (zs : List Pair). zs ++ vs) e }

    abbrev pub GroupOf : Group → Type 0
    GroupOf g = RebuiltGroup ps r l up total g.routers g.pairs

    group-near : (x y : Option Pair) → LastIs least w s.before x → HeadIs least w s.after y → Company least w x y
        → GroupOf (Rules.with_neighbour w ps a want x y)
    unfolding Rules.with_neighbour
    group-near x (some y) b h co = with-right y h.0 h.1
    group-near (some x) none b h co = with-left x b.0 b.1
    group-near none none b h co = absurd co

    some-long : (us : List Pair) → 1 ≤ length us → Some least w us
    some-long [] h = absurd (omega arith)
    some-long (u ∷ us) h = record { first = u; others = us; is = refl }

    pub group_of : (b : Bool) → ltb (length want) (2 * least) ≡ b → GroupOf (Rules.gather_by b w ps a want)
    unfolding Rules.gather_by
    group_of true e = group-near a.left a.right s.left_is s.right_is s.company
    group_of false e =
        alone (some-long want (omega (arith, ltb-false (length want) (2 * least) e))) (omega (arith, ltb-false (length want) (2 * least) e))

    -- what comes of a page
    abbrev WorkedShows : Worked → Type 0
    WorkedShows (settled qs) = Shows least w qs r total
    WorkedShows (upward d qs) = Pending qs r (suc l) up d total
    WorkedShows lacking = Unit {0}

    pub flat : (lo hi m : ℕ) → Touched least w ps (suc l) lo hi m → ((page ps m).level ≡ 0) ⊎ ((page ps m).level ≡ suc l)
    flat lo hi m (spare e) = inl e
    flat lo hi m (inside e x rest q u v) = inr e

    handed : (rs us : List Pair) (g : RebuiltGroup ps r l up total rs us) (x : Rebuilt)
        → RebuiltShows least w lim (Touched least w ps (suc l) g.lo g.hi) ps l g.lo g.hi rs g.gs x
        → WorkedShows (Rules.hand_up rs x)
    unfolding Rules.hand_up
    handed rs us g (rebuilt qs news) t = rise ps qs r l up total rs us news g t
    handed rs us g short t = tt

    regrouped : (level : ℕ) (g : Group) → level ≡ suc l → GroupOf g → WorkedShows (Rules.regroup least w level ps g)
    unfolding Rules.regroup Rules.rebuild Rules.parts
    regrouped level g e k =
        let T : ℕ → Type 0 = Touched least w ps (suc l) k.lo k.hi in
        handed g.routers g.pairs k _
        (raise-by least w lim T ps l k.lo k.hi level g.routers k.gs e k.room k.low-key (flat k.lo k.hi)
        (moved-retire least w lim T ps l (λ m z. spare z) g.routers ps k.members (λ m. inl refl))
        (length-retire least w lim T ps l (λ m z. spare z) g.routers ps) k.shape
        two-or-more (leb (length g.pairs) (4 * least)) g.pairs _ (λ _. omega (arith, k.enough)) refl
        (uses-usable least w lim T ps l (λ m z. spare z) g.routers k.members)
        (apart-usable least w lim T ps l (λ m z. spare z) g.routers k.shape k.members k.unlike) k.some-us k.holds)

    work-by : (b : Bool) → (roomy least w c (page ps p.n) && leb least (length want)) ≡ b → (n : ℕ) → a.own.value ≡ n → n ≡ p.n
        → WorkedShows (Rules.work_by least b w ps a c (page ps p.n))
    unfolding Rules.work_by
    work-by true t n e f =
        subst (λ (i : ℕ). Shows least w (set ps i (changed w c (page ps p.n))) r total) (sym s.value)
        (subst (Shows least w (set ps p.n (changed w c (page ps p.n))) r) (sym p.is)
        (settle least w lim ps r a up l p.lo p.hi p.n c p.xs p.ys p.zs p.way p.level p.tidy p.anchor
        p.lives (leb-true least (length want) (both_true (roomy least w c (page ps p.n)) (leb least (length want)) t).1)
        (some-long want
        (omega (arith, leb-true least (length want) (both_true (roomy least w c (page ps p.n)) (leb least (length want)) t).1)))
        p.holds))
    work-by false t n e f = regrouped _ _ p.level (group_of (ltb (length want) (2 * least)) refl)

    pub work-shows : WorkedShows (work least w ps a c)
    unfolding Rules.work
    work-shows =
        subst (λ (i : ℕ). WorkedShows
        (Rules.work_by least (roomy least w c (page ps i) && leb least (length (wanted w c (page ps i)))) w ps a c (page ps i)))
        (sym s.value)
        (work-by _ refl p.n s.value refl)

  -- the root
  abbrev pub RootedShows : ℕ → List Pair → Rooted → Type 0
  RootedShows r total (stays qs) = Shows least w qs r total
  RootedShows r total (moves n qs) = Shows least w qs n total
  RootedShows r total lacks = Unit {0}

  root-few : (l : ℕ) → fewest least true l ≤ least
  root-few zero = omega arith
  root-few (suc l) = omega arith

  -- a single router's page is the root
  single : (qs : List Page) (l : ℕ) (x : Pair) (total : List Pair) → Row (Tree least w l qs) key_limit (x ∷ []) 0 total
      → Shows least w qs x.value total
  single qs l x total t =
      let h = subst (λ (k : ℕ). Holds least w l qs 0 k (pairs_at w (page qs x.value)) t.mine) t.rest.met t.here.holds in
      record {
        height = l;
        level = t.here.level;
        holds = subst (λ (zs : List Pair). Holds least w l qs 0 key_limit (pairs_at w (page qs x.value)) zs)
            (sym (t.all_of ∙ ap (λ (zs : List Pair). t.mine ++ zs) t.rest.nothing ∙ append-nil t.mine)) h;
        fair = record { lives = t.here.fair.lives; many = omega (arith, root-few l, t.here.fair.many) };
      }

  now-alive : within w alive w ≡ true
  now-alive = both-intro _ _ (le-leb w w (omega arith)) (lt-ltb w alive lim)

  topped-shows : (qs : List Page) (l level r : ℕ) (news total : List Pair) (ns : List ℕ) → level ≡ suc l → 2 ≤ length news
      → Row (Tree least w l qs) key_limit news 0 total
      → Frees least w lim (λ (m : ℕ). Unit {0}) qs l (λ m e. tt) 5 ns → RootedShows r total (Climb.topped w level qs news ns)
  unfolding Climb.topped
  topped-shows qs l level r news total [] e big t f = tt
  topped-shows qs l level r news total (n ∷ ns) e big t f =
      let q : Page = filled w (suc level) news in
      let rs : List Page = set qs n q in
      let moved : Moved least w lim (λ (m : ℕ). (page qs m).level ≡ 0) qs rs
      = moved-set least w lim (λ (m : ℕ). (page qs m).level ≡ 0) qs qs n q (λ m. inl refl) f.zeros.0 in
      let wrote : page rs n ≡ q = get_or-set_same qs n q free f.uses.0.in_list in
      record {
        height = suc l;
        level = ap (λ (p : Page). p.level) wrote ∙ ap suc e;
        holds = subst (λ (zs : List Pair). Row (Tree least w l rs) key_limit zs 0 total)
            (sym (ap (pairs_at w) wrote ∙ show-filled w lim (suc level) news))
            (frame_row least w qs rs l 0 key_limit news total (λ m. left m (moved m)) t);
        fair = record {
          lives = subst (λ (p : Page). within p.start p.end w ≡ true) (sym wrote) now-alive;
          many = subst (λ (zs : List Pair). 2 ≤ length zs) (sym (ap (pairs_at w) wrote ∙ show-filled w lim (suc level) news)) big;
        };
      }
    where
      left : (m : ℕ) → (page (set qs n (filled w (suc level) news)) m ≡ page qs m) ⊎ ((page qs m).level ≡ 0)
          → (page (set qs n (filled w (suc level) news)) m ≡ page qs m)
          ⊎ Away least w qs (set qs n (filled w (suc level) news)) (suc l) 0 key_limit m
      left m (inl z) = inl z
      left m (inr z) = inr (unused z)

  module _ (ps : List Page) (r l : ℕ) (c : Change) (total : List Pair) (level : (page ps r).level ≡ suc l) (tidy : Tidy least w (page ps r))
      (full : roomy least w c (page ps r) ≡ false → Some least w (wanted w c (page ps r)))
      (holds : Holds least w l ps 0 key_limit (wanted w c (page ps r)) total)
      (lives : within (page ps r).start (page ps r).end w ≡ true) (enough : fewest least true l ≤ length (wanted w c (page ps r))) where
    abbrev pub T : ℕ → Type 0
    T m = ((page ps m).level ≡ 0) ⊎ ((page ps m).level ≡ suc l)

    new-root : (x : Rebuilt) → RebuiltShows least w lim T ps l 0 key_limit (pair 0 r ∷ []) total x
        → RootedShows r total (Climb.new_root w (page ps r).level x)
    unfolding Climb.new_root
    new-root short t = tt
    new-root (rebuilt qs []) t = tt
    new-root (rebuilt qs (x ∷ [])) t = single qs l x total t.row
    new-root (rebuilt qs (x ∷ y ∷ zs)) t =
        topped-shows qs l (page ps r).level r (x ∷ y ∷ zs) total (free_ones qs) level (omega arith) t.row
        (frees_all least w lim (λ (m : ℕ). Unit {0}) qs l (λ m e. tt))

    abbrev pub rs : List Pair
    rs = pair 0 r ∷ []

    pub members : Members least w lim T ps l (λ m z. inl z) rs
    members = (record { touched = inr level; in_list = in_list ps r l level; level = level }, tt)

    -- one page in the old root's place
    root-one : (ns : List ℕ) → Uses least w lim T ps ns
        → RootedShows r total
        (Climb.new_root w (page ps r).level (Rules.rebuild_with w (page ps r).level ps rs (one (wanted w c (page ps r))) ns))
    unfolding Climb.new_root Rules.rebuild_with
    root-one [] u = tt
    root-one (n ∷ ns) u =
        let q : Page = filled w (page ps r).level (wanted w c (page ps r)) in
        let qs : List Page = set (retire w ps rs) n q in
        let moved : Moved least w lim T ps qs = moved-set least w lim T ps (retire w ps rs) n q
        (moved-retire least w lim T ps l (λ m z. inl z) rs ps members (λ m. inl refl)) u.0.touched in
        let wrote : page qs n ≡ q = get_or-set_same (retire w ps rs) n q free
        (subst (λ (k : ℕ). n < k) (sym (length-retire least w lim T ps l (λ m z. inl z) rs ps)) u.0.in_list) in
        let shown : pairs_at w (page qs n) ≡ wanted w c (page ps r) = ap (pairs_at w) wrote
        ∙ show-filled w lim (page ps r).level (wanted w c (page ps r)) in
        record {
          height = l;
          level = ap (λ (p : Page). p.level) wrote ∙ level;
          holds = subst (λ (zs : List Pair). Holds least w l qs 0 key_limit zs total) (sym shown)
              (frame least w ps qs l 0 key_limit (wanted w c (page ps r)) total
              (moved-under least w lim T ps qs l (λ m t. t) moved 0 key_limit) holds);
          fair = record {
            lives = subst (λ (p : Page). within p.start p.end w ≡ true) (sym wrote) now-alive;
            many = subst (λ (zs : List Pair). fewest least true l ≤ length zs) (sym shown) enough;
          };
        }

    pub root-raised : leb (length (wanted w c (page ps r))) (4 * least) ≡ false → Some least w (wanted w c (page ps r))
        → RebuiltShows least w lim T ps l 0 key_limit rs total
        (Rules.rebuild_with w (page ps r).level ps rs (Rules.parts_by false (wanted w c (page ps r))) (Rules.usable w ps rs))
    root-raised z some-want =
        raise-by least w lim T ps l 0 key_limit (page ps r).level rs total level (lit< tt) refl (λ m t. t)
        (moved-retire least w lim T ps l (λ m z. inl z) rs ps members (λ m. inl refl))
        (length-retire least w lim T ps l (λ m z. inl z) rs ps) (lone (pair 0 r))
        two-or-more false (wanted w c (page ps r)) _ (λ e. absurd (not-both false e refl)) z
        (uses-usable least w lim T ps l (λ m z. inl z) rs members)
        (apart-usable least w lim T ps l (λ m z. inl z) rs (lone (pair 0 r)) members tt) some-want holds

    root-anew : (b : Bool) → leb (length (wanted w c (page ps r))) (4 * least) ≡ b → Some least w (wanted w c (page ps r))
        → RootedShows r total
        (Climb.new_root w (page ps r).level
        (Rules.rebuild_with w (page ps r).level ps rs (Rules.parts_by b (wanted w c (page ps r))) (Rules.usable w ps rs)))
    unfolding Rules.parts_by
    root-anew true z some-want = root-one _ (uses-usable least w lim T ps l (λ m z. inl z) rs members)
    root-anew false z some-want = new-root _ (root-raised z some-want)

    root-stay : (b : Bool) → roomy least w c (page ps r) ≡ b → RootedShows r total (Climb.root_stay least b w ps r c (page ps r))
    unfolding Climb.root_stay Rules.rebuild Rules.parts
    root-stay true e =
        let q : Page = changed w c (page ps r) in
        let qs : List Page = set ps r q in
        let moved : Moved least w lim T ps qs = moved-set least w lim T ps ps r q (λ m. inl refl) (inr level) in
        let wrote : page qs r ≡ q = get_or-set_same ps r q free (in_list ps r l level) in
        record {
          height = l;
          level = ap (λ (p : Page). p.level) wrote ∙ level;
          holds = subst (λ (zs : List Pair). Holds least w l qs 0 key_limit zs total)
              (sym (ap (pairs_at w) wrote ∙ show-changed w lim c (page ps r) tidy.order tidy.starts))
              (frame least w ps qs l 0 key_limit (wanted w c (page ps r)) total
              (moved-under least w lim T ps qs l (λ m t. t) moved 0 key_limit) holds);
          fair = record {
            lives = subst (λ (p : Page). within p.start p.end w ≡ true) (sym wrote) lives;
            many = subst (λ (zs : List Pair). fewest least true l ≤ length zs)
                (sym (ap (pairs_at w) wrote ∙ show-changed w lim c (page ps r) tidy.order tidy.starts)) enough;
          };
        }
    root-stay false e = root-anew (leb (length (wanted w c (page ps r))) (4 * least)) refl (full e)

  -- a lone router: its page is the root, and the old root goes
  lone-root : (ps : List Page) (r l : ℕ) (x : Pair) (total : List Pair) (q : Page) → (page ps r).level ≡ suc (suc l)
      → Row (Tree least w l ps) key_limit (x ∷ []) 0 total
      → Shows least w (set ps r q) x.value total
  lone-root ps r l x total q e t =
      let S : ℕ → Type 0 = λ m. ((page ps m).level ≡ 0) ⊎ ((page ps m).level ≡ suc (suc l)) in
      single (set ps r q) l x total
      (frame_row least w ps (set ps r q) l 0 key_limit (x ∷ []) total
      (moved-under least w lim S ps (set ps r q) (suc l) (λ m z. z)
      (moved-set least w lim S ps ps r q (λ m. inl refl) (inr e)) 0 key_limit) t)

  module _ (ps : List Page) (r : ℕ) (c : Change) (total : List Pair) (tidy : Tidy least w (page ps r))
      (full : roomy least w c (page ps r) ≡ false → Some least w (wanted w c (page ps r)))
      (lives : within (page ps r).start (page ps r).end w ≡ true) where
    two-few : (l n : ℕ) → fewest least true l ≤ suc (suc n)
    two-few zero n = omega arith
    two-few (suc l) n = omega arith

    root-go : (b : Bool) (l : ℕ) (want : List Pair) → leb 2 (page ps r).level ≡ b → (page ps r).level ≡ suc l
        → wanted w c (page ps r) ≡ want → Holds least w l ps 0 key_limit (wanted w c (page ps r)) total
        → RootedShows r total (Climb.root_go least b w ps r c (page ps r) want)
    unfolding Climb.root_go
    root-go true zero (x ∷ []) b e f h = absurd (omega (arith, leb-true 2 (page ps r).level b))
    root-go true (suc l) (x ∷ []) b e f h =
        lone-root ps r l x total _ e (subst (λ (zs : List Pair). Row (Tree least w l ps) key_limit zs 0 total) f h)
    root-go true zero [] b e f h = absurd (omega (arith, leb-true 2 (page ps r).level b))
    root-go true (suc l) [] b e f h = absurd (not-here (subst (λ (zs : List Pair). Row (Tree least w l ps) key_limit zs 0 total) f h).met)
      where
        not-here : 0 ≡ key_limit → ⊥
        not-here z = omega arith
    root-go true l (x ∷ y ∷ zs) b e f h =
        root-stay ps r l c total e tidy full h lives
        (subst (λ (us : List Pair). fewest least true l ≤ length us) (sym f) (two-few l (length zs))) _ refl
    root-go false zero want b e f h = root-stay ps r zero c total e tidy full h lives (omega arith) _ refl
    root-go false (suc l) want b e f h = absurd (omega (arith, leb-false 2 (page ps r).level b))

    pub root-shows : (l : ℕ) → (page ps r).level ≡ suc l → Holds least w l ps 0 key_limit (wanted w c (page ps r)) total
        → RootedShows r total (work_root least w ps r c)
    unfolding Climb.work_root
    root-shows l e h = root-go _ l _ refl e refl h

  pub climb-shows : (r : ℕ) (up : List Around) (l : ℕ) (c : Change) (ps : List Page) (total : List Pair) → Pending ps r l up c total
      → RootedShows r total (climb least w r up c ps)
  unfolding climb
  climb-shows r [] l c ps total p =
      let t : Top least w r p.lo p.hi p.n p.xs p.ys = p.way in
      let h₁ = subst (λ (m : ℕ). Holds least w l ps p.lo p.hi (wanted w c (page ps m)) p.zs) t.root p.holds in
      let h₂ = subst (λ (k : ℕ). Holds least w l ps k p.hi (wanted w c (page ps r)) p.zs) t.low h₁ in
      let h₃ = subst (λ (k : ℕ). Holds least w l ps 0 k (wanted w c (page ps r)) p.zs) t.high h₂ in
      let all_of : p.xs ++ (p.zs ++ p.ys) ≡ p.zs = rw (t.no-before, t.no-after, append-nil) in
      root-shows ps r c total (subst (λ (m : ℕ). Tidy least w (page ps m)) t.root p.tidy)
      (subst (λ (m : ℕ). roomy least w c (page ps m) ≡ false → Some least w (wanted w c (page ps m))) t.root p.anchor)
      (subst (λ (m : ℕ). within (page ps m).start (page ps m).end w ≡ true) t.root p.lives)
      l (subst (λ (m : ℕ). (page ps m).level ≡ suc l) t.root p.level)
      (subst (λ (zs : List Pair). Holds least w l ps 0 key_limit (wanted w c (page ps r)) zs) (sym (p.is ∙ all_of)) h₃)
  climb-shows r (a ∷ up) l c ps total p =
      at (work least w ps a c) (work-shows ps r l a up c total p) (λ d qs. climb-shows r up (suc l) d qs total)
    where
      at : (x : Worked) → WorkedShows ps r l a up c total p x
          → ((d : Change) (qs : List Page) → Pending qs r (suc l) up d total → RootedShows r total (climb least w r up d qs))
          → RootedShows r total (go_on x (λ (d : Change) (qs : List Page). climb least w r up d qs))
      at (settled qs) f ih = f
      at (upward d qs) f ih = ih d qs f
      at lacking f ih = tt
