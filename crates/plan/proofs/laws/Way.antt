-- Laws about plan/specs/Way. Assumes nothing.
use Prim.Native.Nat.{ℕ, zero, suc, ◌+◌, ◌-◌, ◌<◌, ◌≤◌}
use mathlib.Core.Path.{◌≡◌, refl, ap, sym, subst, ◌∙◌}
use mathlib.Core.Bool.{Bool, true, false}
use mathlib.Core.Option.{Option, some}
use mathlib.Core.Logic.{⊎_elim}
use mathlib.Core.List.{List, [], ◌∷◌}
use Rattle.std.specs.Prelude.{Option as Maybe, None, Some}
use Rattle.bits.proofs.laws.Put.{less}
use native.Mathlib.Numerals.{add-one}
use native.Mathlib.Omega.{arith}
use lib.Dec.{leb, ltb}
use lib.ListN.{length, get_or, set, drop, replicate, length-set, length-replicate}
use lib.Seq.{drop-cons, get_or-set_same, get_or-set_other}
use borrow.Author.Tests.{le-leb, lt-leb, le-ltb}
use Rattle.model.specs.declared.Pair.{Pair}
use Rattle.model.specs.Walk as walk
use Rattle.model.specs.Refusals.{found_in}
use Rattle.model.proofs.lists.Members.{in-get_or}
use Rattle.edit.specs.Fill.{nil, Fitting}
use Rattle.gather.specs.declared.Gather.{Gather}
use Rattle.gather.specs.Gather.{Good, pairs_in}
use Rattle.gather.proofs.laws.Gather.{length_pairs, pair-at}
use Rattle.model.specs.declared.Limits.{Limits}
use Rattle.model.specs.Page.{Page, is_free, pairs_at}
use Rattle.model.specs.Store.{page}
use Rattle.model.specs.Layout.{decode}
use Rattle.model.specs.Near.{starts_by}
use Rattle.model.specs.Inner.{In}
use Rattle.walk.specs.Covers.{Covers}
use Rattle.walk.proofs.laws.Covers.{covers-starts, covers-own, covers-later, covers-root}
use Rattle.walk.specs.Sure.{Walkable}
use Rattle.store.proofs.laws.Sure.{sure}
use Rattle.model.proofs.sound.Ready.{level-used}
use Rattle.parts.specs.Kept.{Inside, pages_of}
use Rattle.parts.proofs.laws.Kept.{inside-used}
use Rattle.group.specs.declared.Around.{Around}
use Rattle.group.specs.Group.{around_of, Router, Placed}
use Rattle.plan.specs.Plan.{nowhere, ups_of}
use Rattle.plan.specs.Way.{beside, place_at, Among, Leads}

-- what is left to look through behind the i-th
unfoldable pub looked_from : ℕ → List Pair → ℕ → walk.Around
looked_from k xs i = walk.around_from k (beside (ltb i 2) (get_or xs (i - 2) nil)) (get_or xs (i - 1) nil) (drop i xs)

pub looked-start : (k : ℕ) (xs : List Pair) → 0 < length xs → walk.around k xs ≡ looked_from k xs 1
unfolding looked_from
looked-start k [] h = absurd (omega arith)
looked-start k (x ∷ xs) h = refl

from_on : (k : ℕ) (l : Option Pair) (x y : Pair) (ys : List Pair) → y.key ≤ k
    → walk.around_from k l x (y ∷ ys) ≡ walk.around_from k (some x) y ys
from_on k l x y ys h = rw (walk.around_from, le-leb y.key k h)

from-here : (k : ℕ) (l : Option Pair) (x y : Pair) (ys : List Pair) → k < y.key
    → walk.around_from k l x (y ∷ ys) ≡ record { left = l; own = x; right = some y }
from-here k l x y ys h = rw (walk.around_from, lt-leb y.key k h)

module _ (k : ℕ) (xs : List Pair) (i : ℕ) where
  abbrev before : Option Pair
  before = beside (ltb i 2) (get_or xs (i - 2) nil)

  pub looked-on : 1 ≤ i → i < length xs → (get_or xs i nil).key ≤ k → looked_from k xs i ≡ looked_from k xs (i + 1)
  unfolding looked_from
  looked-on one h le =
      let a : i + 1 - 1 ≡ i = omega arith in
      let b : i + 1 - 2 ≡ i - 1 = omega arith in
      let d : drop (i + 1) xs ≡ drop (suc i) xs = ap (λ (j : ℕ). drop j xs) (add-one i) in
      ap (λ (ys : List Pair). walk.around_from k before (get_or xs (i - 1) nil) ys) (drop-cons xs i nil h)
      ∙ from_on k before (get_or xs (i - 1) nil) (get_or xs i nil) (drop (suc i) xs) le ∙ rw (le-ltb (i + 1) 2 (omega arith), a, b, d)

  pub looked-here : i < length xs → k < (get_or xs i nil).key → looked_from k xs i ≡ place_at xs i
  unfolding looked_from place_at
  looked-here h lt =
      ap (λ (ys : List Pair). walk.around_from k before (get_or xs (i - 1) nil) ys) (drop-cons xs i nil h)
      ∙ from-here k before (get_or xs (i - 1) nil) (get_or xs i nil) (drop (suc i) xs) lt ∙ rw (lt-leb (length xs) i h)

  pub looked-last : length xs ≤ i → looked_from k xs i ≡ place_at xs i
  unfolding looked_from place_at
  looked-last h = let e : drop i xs ≡ [] = past xs i h in rw (e, le-leb (length xs) i h)
    where
      past : (l : List Pair) (i : ℕ) → length l ≤ i → drop i l ≡ []
      past [] zero h = refl
      past [] (suc i) h = refl
      past (x ∷ l) zero h = absurd (omega arith)
      past (x ∷ l) (suc i) h = past l i (omega arith)

-- as it is taken from a list by value
module _ (g : Gather) (z : Good g) (i : ℕ) (one : 1 ≤ i) (le : i ≤ g.n) where
  -- a neighbour as it is taken from the list, if the place is not the outermost on that side
  pub record Taken (outer : Bool) (k : ℕ) (o : Maybe Pair) : Type 0 where
    pub none : outer ≡ true → o ≡ None
    pub some : outer ≡ false → (k < g.n) × (o ≡ Some (get_or g.list k nil))

  taken-beside : (b : Bool) (k : ℕ) (o : Maybe Pair) → Taken b k o → found_in o ≡ beside b (get_or (pairs_in g) k nil)
  taken-beside true k o t = rw (t.none refl)
  taken-beside false k o t = let (h, e) = t.some refl in rw (e, pair-at g k h)

  member : (k : ℕ) → k < g.n → In (get_or g.list k nil) (pairs_in g) × Fitting (get_or g.list k nil)
  member k h = (rw (← pair-at g k h) (in-get_or nil (pairs_in g) k (omega (arith, length_pairs g z))), z.fits k)

  taken-member : (b : Bool) (k : ℕ) (o : Maybe Pair) → Taken b k o → (x : Pair) → o ≡ Some x → In x (pairs_in g) × Fitting x
  taken-member true k o t x e = absurd (let f = t.none refl in let h : None ≡ Some x = sym f ∙ e in cc)
  taken-member false k o t x e =
      let (h, f) = t.some refl in
      let q : get_or g.list k nil ≡ x = cc in
      rw (← q) (member k h)

  module _ (left right : Maybe Pair) (p : Taken (ltb i 2) (i - 2) left) (q : Taken (leb g.n i) i right) where
    abbrev pub taken : Around
    taken = record { left = left; own = get_or g.list (i - 1) nil; right = right }

    pub taken_is : around_of taken ≡ place_at (pairs_in g) i
    unfolding around_of place_at
    taken_is =
        rw (taken-beside (ltb i 2) (i - 2) left p, taken-beside (leb g.n i) i right q, length_pairs g z, pair-at g (i - 1) (omega arith))

    pub taken-among : Among (pairs_in g) taken
    taken-among =
        record {
          own = member (i - 1) (omega arith);
          left = taken-member (ltb i 2) (i - 2) left p;
          right = taken-member (leb g.n i) i right q;
        }

ups-before : (xs : List Around) (n m : ℕ) (a : Around) → m ≤ n → ups_of (set xs n a) m ≡ ups_of xs m
unfolding ups_of
ups-before xs n zero a h = refl
ups-before xs n (suc m) a h = rw (get_or-set_other xs n m a nowhere (λ (e : m ≡ n). omega arith), ups-before xs n m a (omega arith))

pub ups-more : (xs : List Around) (n : ℕ) (a : Around) → n < length xs → around_of a ∷ ups_of xs n ≡ ups_of (set xs n a) (n + 1)
unfolding ups_of
ups-more xs n a h = sym (rw (add-one, get_or-set_same xs n a nowhere h, ups-before xs n n a (omega arith)))

-- one place more
pub at_more : (P : Around → Type 0) (xs : List Around) (n : ℕ) (a : Around) → n < length xs → ((k : ℕ) → k < n → P (get_or xs k nowhere))
    → P a
    → (k : ℕ) → k < n + 1 → P (get_or (set xs n a) k nowhere)
at_more P xs n a h f p k lt =
    ⊎_elim (λ (q : k < n). subst P (sym (get_or-set_other xs n k a nowhere (λ (e : k ≡ n). omega arith))) (f k q))
    (λ (q : n ≤ k).
    let e : k ≡ n = omega arith in
    subst (λ (j : ℕ). P (get_or (set xs n a) j nowhere)) (sym e) (subst P (sym (get_or-set_same xs n a nowhere h)) p))
    (less k n)

-- one level down
pub down_step : (up : ℕ) (ps : List Page) (w k n : ℕ) (a : walk.Around) (acc : List walk.Around) → 0 < up
    → a ≡ walk.around k (pairs_at w (page ps n))
    → walk.way_down up ps w k n acc ≡ walk.way_down (up - 1) ps w k a.own.value (a ∷ acc)
down_step zero ps w k n a acc h e = absurd (omega arith)
down_step (suc up) ps w k n a acc h e =
    let m : suc up - 1 ≡ up = omega arith in
    rw m (ap (λ (x : walk.Around). walk.way_down up ps w k x.own.value (x ∷ acc)) (sym e))

own_is : (a : Around) → (around_of a).own.value ≡ a.own.value
unfolding around_of
own_is a = refl

-- the routers of a page that a walk comes to lead to pages of the store
module _ {l : Limits} {b : List ℕ} {w : ℕ} (r : Walkable l b w) (up n k : ℕ) (c : Covers l.least w (pages_of l b) (suc up) n k) where
  router : (x : Pair) → In x (pairs_at w (page (pages_of l b) n)) × Fitting x → Router l b x
  router x (i, f) =
      record {
        inside = inside-used r.edition b r.sound x.value up (covers-later l.least w (pages_of l b) up n k c x i).level;
        fits = f;
      }

  pub placed : (a : Around) → Among (pairs_at w (page (pages_of l b) n)) a → Placed l b a
  placed a m =
      record { own = router a.own m.own; left = λ x e. router x (m.left x e); right = λ x e. router x (m.right x e) }

pub some-live : (k : ℕ) (xs : List Pair) → starts_by k xs ≡ true → 0 < length xs
some-live k [] e = absurd (let z : ◌≡◌ {A = ℕ} 0 1 = cc in omega arith)
some-live k (x ∷ xs) e = omega arith

-- ---- down from the root, level by level

module _ (l : Limits) (b : List ℕ) (w k root : ℕ) where
  -- page `at` is come to, `up` levels above the leaves, by n places
  pub record WayCome (xs : List Around) (up n at : ℕ) : Type 0 where
    pub size : length xs ≡ 8
    pub few : n + up ≤ 6
    pub covers : Covers l.least w (pages_of l b) up at k
    pub placed : (j : ℕ) → j < n → Placed l b (get_or xs j nowhere)
    pub ups : walk.way (decode l.least b) w k ≡ walk.way_down up (pages_of l b) w k at (ups_of xs n)

  module _ (r : Walkable l b w) (low : k < walk.key_limit) (is : root ≡ walk.root_at (decode l.least b).slots w) where
    root-covers : Covers l.least w (pages_of l b) (walk.height_of (pages_of l b) root) root k
    root-covers =
        rw is (covers-root l.least (omega (arith, r.edition.four)) (decode l.least b) (sure r.edition b r.sound) w k
        r.version low)

    pub root-inside : Inside l b root
    root-inside = inside-used r.edition b r.sound root (walk.height_of (pages_of l b) root) root-covers.level

    pub root-level : (page (pages_of l b) root).level ≡ suc (walk.height_of (pages_of l b) root)
    root-level = root-covers.level

    pub going_start : (up : ℕ) → suc up ≡ (page (pages_of l b) root).level → WayCome (replicate 8 nowhere) up 0 root
    unfolding ups_of
    going_start up e =
        let h : up ≡ walk.height_of (pages_of l b) root = omega (arith, root-level) in
        let used : is_free (page (pages_of l b) root) ≡ false
        = level-used (page (pages_of l b) root) (walk.height_of (pages_of l b) root) root-level in
        record {
          size = length-replicate 8 nowhere;
          few = omega (arith, ((sure r.edition b r.sound).pages root used).low);
          covers = rw h root-covers;
          placed = λ j lt. absurd (omega arith);
          ups = rw (h, is);
        }

    pub going_end : (xs : List Around) (up n at : ℕ) → up ≤ 0 → WayCome xs up n at
        → Leads l b w k (record { root = root; list = xs; n = n })
    going_end xs up n at h g =
        let e : up ≡ 0 = omega arith in
        record {
          led = record { root = root-inside; size = g.size; few = omega (arith, g.few); at = g.placed };
          root = is;
          ups = sym (g.ups ∙ rw e);
        }

    module _ (xs : List Around) (up n at : ℕ) (some : 0 < up) (g : WayCome xs up n at) where
      covers-suc : Covers l.least w (pages_of l b) (suc (up - 1)) at k
      covers-suc = let e : suc (up - 1) ≡ up = omega arith in rw e g.covers

      pub going-inside : Inside l b at
      going-inside = inside-used r.edition b r.sound at up g.covers.level

      pub going-live : 0 < length (pairs_at w (page (pages_of l b) at))
      going-live = some-live k (pairs_at w (page (pages_of l b) at)) (covers-starts l.least w (pages_of l b) (up - 1) at k covers-suc)

      pub going_step : (a : Around) → around_of a ≡ walk.around k (pairs_at w (page (pages_of l b) at))
          → Among (pairs_at w (page (pages_of l b) at)) a
          → WayCome (set xs n a) (up - 1) (n + 1) a.own.value
      going_step a e m =
          let lt : n < length xs = omega (arith, g.size, g.few) in
          let own : (around_of a).own.value ≡ a.own.value = own_is a in
          record {
            size = length-set xs n a ∙ g.size;
            few = omega (arith, g.few);
            covers = rw (← own, e) (covers-own l.least w (pages_of l b) (up - 1) at k covers-suc);
            placed = at_more (Placed l b) xs n a lt g.placed (placed r (up - 1) at k covers-suc a m);
            ups = g.ups ∙ down_step up (pages_of l b) w k at (around_of a) (ups_of xs n) some e
                ∙ ap (λ (j : ℕ). walk.way_down (up - 1) (pages_of l b) w k j (around_of a ∷ ups_of xs n)) own
                ∙ ap (walk.way_down (up - 1) (pages_of l b) w k a.own.value) (ups-more xs n a lt);
          }
