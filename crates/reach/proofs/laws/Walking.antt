-- What is known at the heads of the walk's two loops, and laws of the list of items. Assumes nothing.
use Prim.Native.Nat.{ℕ, zero, suc, ◌+◌, ◌*◌, ◌-◌, ◌<◌, ◌≤◌}
use mathlib.Core.Path.{◌≡◌, refl, ap, ap₂, sym, ◌∙◌}
use mathlib.Core.Bool.{Bool, true, false, ◌||◌, or-false}
use mathlib.Core.List.{List, [], ◌∷◌, ◌++◌}
use mathlib.Core.Logic.{⊎_elim}
use lib.Dec.{ltb, eqb}
use lib.ListN.{length, get_or, set}
use lib.Seq.{get_or-set_same, get_or-set_other}
use native.Mathlib.Omega.{arith}
use native.Mathlib.Numerals.{add-one}
use native.Mathlib.Nat.{zero-mul}
use borrow.Author.Tests.{lt-ltb, le-ltb}
use Rattle.bits.proofs.laws.Put.{less}
use Rattle.model.specs.declared.Pair.{Pair}
use Rattle.model.specs.Basic.{all, any, pick}
use Rattle.model.specs.Entry.{pair_of, live_at}
use Rattle.model.specs.Page.{Page, pairs_at}
use Rattle.model.specs.Store.{page}
use Rattle.model.specs.Walk.{Seen, seen_below}
use Rattle.model.specs.Layout.{read_entry, page_of, decode}
use Rattle.notes.proofs.laws.Means.{spread-cons}
use Rattle.page.proofs.laws.Read.{entries-of}
use Rattle.store.proofs.laws.Read.{page-at}
use Rattle.local.specs.Local.{IsPage, count_at}
use Rattle.reach.specs.declared.marks.Item.{Item}
use Rattle.reach.specs.Pending.{first_key, open_ok, chain_ok, passes, over, pairs_from, whole_in, is_number}
use Rattle.reach.proofs.laws.Pending.{here, seen_of, kids, span_of, kids_in, none, pend, Same, weight, heft, weigh, Fine}
use Rattle.reach.proofs.laws.Stretch.{over_none, over-nil, over-both, over-const}

abbrev pub kid_weight : ℕ → ℕ
kid_weight zero = 0
kid_weight (suc u) = weight u

pub weight-kids : (u : ℕ) → weight u ≡ 1 + 40 * kid_weight u
unfolding weight
weight-kids zero = refl
weight-kids (suc u) = refl

-- at the head of the loop over pages
pub record Walking (least : ℕ) (s : List ℕ) (root up a b rule : ℕ) (marks : List Bool) (items : List Item) (top : ℕ) : Type 0 where
  pub slots : length items ≡ 288
  pub size : length marks ≡ 4096
  pub fine : (k : ℕ) → k < top → Fine least s up k (get_or items k none)
  pub done : List Seen
  pub same : Same (whole_in least s up a b root) (done ++ pend (decode least s).pages items top)
  pub good : all (passes least rule) done ≡ true
  pub mark : (m : ℕ) → get_or marks m false ≡ any (is_number m) done

-- at the head of the loop over the entries of page n, which is taken from the list as `it` for its versions up to c
pub record Entering (least : ℕ) (s : List ℕ) (root up a b rule : ℕ) (marks : List Bool) (items₀ : List Item) (top₀ : ℕ) (it : Item) (n : ℕ)
    (p : List ℕ) (count c : ℕ) (items : List Item) (top j : ℕ) : Type 0 where
  pub number : n ≡ it.page
  pub bytes : p ≡ page_of least s n
  pub sized : length p ≡ 64 * least
  pub counted : count ≡ count_at least s n
  pub room : count ≤ 5 * least
  pub slots : length items ≡ 288
  pub size : length marks ≡ 4096
  pub cut : it.from < c
  pub own : Fine least s up (top₀ - 1) it
  pub fine : (k : ℕ) → k < top → Fine least s up k (get_or items k none)
  pub above : top ≤ top₀ + j
  pub weighs : weigh items top ≤ weigh items₀ top₀ + j * ((c - it.from) * kid_weight it.up)
  pub place : j ≤ count
  pub live : j < count → pairs_from p it.from j count ≡ pair_of (read_entry p (128 + 96 * j)) ∷ pairs_from p it.from (j + 1) count
  pub alive : j < count → live_at it.from (read_entry p (128 + 96 * j)) ≡ true
  pub done : List Seen
  pub same : Same (whole_in least s up a b root)
      ((here (decode least s).pages it.from it ∷ done) ++
      (pend (decode least s).pages items top ++ kids_in it.up (decode least s).pages it.from c (pairs_from p it.from j count)
      it.high))
  pub good : all (passes least rule) done ≡ true
  pub opened : open_ok least rule it.root it.up it.low (pairs_from p it.from 0 count) ≡ true
  pub chain : chain_ok rule it.low it.high (pairs_from p it.from 0 count)
      ≡ chain_ok rule it.low it.high (pairs_from p it.from j count)
  pub mark : (m : ℕ) → get_or marks m false ≡ any (is_number m) (here (decode least s).pages it.from it ∷ done)

-- ---- the list of items

module _ (ps : List Page) (items : List Item) where
  pend-other : (j : ℕ) (x : Item) (k : ℕ) → k ≤ j → pend ps (set items j x) k ≡ pend ps items k
  unfolding pend
  pend-other j x zero h = refl
  pend-other j x (suc k) h = rw (get_or-set_other items j k x none (omega arith), pend-other j x k (omega arith))

  pub pend-push : (top : ℕ) (x : Item) → top < length items → pend ps (set items top x) (top + 1) ≡ span_of ps x ++ pend ps items top
  unfolding pend
  pend-push top x h = rw (add-one, get_or-set_same items top x none h, pend-other top x top (omega arith))

  -- what is left of an item is put back, if it is anything
  pub pend-put : (k : ℕ) (x : Item) → k < length items
      → pend ps (set items k x) (k + pick (ltb x.from x.upto) 1 0) ≡ span_of ps x ++ pend ps items k
  unfolding span_of
  pend-put k x h =
      ⊎_elim (λ l. rw (lt-ltb x.from x.upto l) (pend-push k x h))
      (λ l. let z : k + 0 ≡ k = omega arith in let o : k ≤ k = omega arith in
      rw (le-ltb x.from x.upto l, z, over_none (λ (v : ℕ). seen_of ps v x) x.from x.upto l) (pend-other k x k o))
      (less x.from x.upto)

  pub pend-top : (top : ℕ) → 0 < top → pend ps items top ≡ span_of ps (get_or items (top - 1) none) ++ pend ps items (top - 1)
  unfolding pend
  pend-top zero h = absurd (omega arith)
  pend-top (suc k) h = let e : suc k - 1 ≡ k = omega arith in rw e

module _ (items : List Item) where
  weigh-other : (j : ℕ) (x : Item) (k : ℕ) → k ≤ j → weigh (set items j x) k ≡ weigh items k
  unfolding weigh
  weigh-other j x zero h = refl
  weigh-other j x (suc k) h = rw (get_or-set_other items j k x none (omega arith), weigh-other j x k (omega arith))

  pub weigh-push : (top : ℕ) (x : Item) → top < length items → weigh (set items top x) (top + 1) ≡ heft x + weigh items top
  unfolding weigh
  weigh-push top x h = rw (add-one, get_or-set_same items top x none h, weigh-other top x top (omega arith))

  pub weigh-put : (k : ℕ) (x : Item) → k < length items
      → weigh (set items k x) (k + pick (ltb x.from x.upto) 1 0) ≡ heft x + weigh items k
  unfolding heft
  weigh-put k x h =
      ⊎_elim (λ l. rw (lt-ltb x.from x.upto l) (weigh-push k x h))
      (λ l. let z : k + 0 ≡ k = omega arith in let y : (x.upto - x.from) * weight x.up
      ≡ 0 = nothing (x.upto - x.from) (weight x.up) (omega arith) in let o : k ≤ k = omega arith in
      rw (le-ltb x.from x.upto l, z) (omega (arith, y, weigh-other k x k o)))
      (less x.from x.upto)
    where
      nothing : (d w : ℕ) → d ≡ 0 → d * w ≡ 0
      nothing d w e = rw e (zero-mul w)

  pub weigh-top : (top : ℕ) → 0 < top → weigh items top ≡ heft (get_or items (top - 1) none) + weigh items (top - 1)
  unfolding weigh
  weigh-top zero h = absurd (omega arith)
  weigh-top (suc k) h = let e : suc k - 1 ≡ k = omega arith in rw e

-- ---- a page, and what is below it

pub seen-item : (ps : List Page) (v : ℕ) (it : Item)
    → seen_of ps v it ≡ here ps v it ∷ kids it.up ps v (pairs_at v (page ps it.page)) it.high
unfolding seen_of here kids
seen-item ps v it = at it.up
  where
    at : (u : ℕ) → seen_below u ps v it.root it.low it.high it.page
        ≡ record { number = it.page; up = u; is_root = it.root; low = it.low; high = it.high; pairs = pairs_at v (page ps it.page) }
        ∷ kids u ps v (pairs_at v (page ps it.page)) it.high
    at zero = refl
    at (suc u) = refl

kids-zero : (ps : List Page) (v : ℕ) (xs : List Pair) (high : ℕ) → kids 0 ps v xs high ≡ []
unfolding kids
kids-zero ps v xs high = refl

number-here : (ps : List Page) (v : ℕ) (it : Item) (m : ℕ) → is_number m (here ps v it) ≡ eqb m it.page
unfolding here
number-here ps v it m = refl

module _ (u : ℕ) (ps : List Page) (a b : ℕ) where
  pub kids-none : (high : ℕ) → kids_in u ps a b [] high ≡ []
  unfolding kids_in kids
  kids-none high = over-nil (λ (v : ℕ). kids u ps v [] high) a b (λ v. at v u)
    where
      at : (v k : ℕ) → kids k ps v [] high ≡ []
      at v zero = refl
      at v (suc k) = refl

  pub kids-leaf : (xs : List Pair) (high : ℕ) → u ≡ 0 → kids_in u ps a b xs high ≡ []
  unfolding kids_in kids
  kids-leaf xs high e = rw e (over-nil (λ (v : ℕ). kids 0 ps v xs high) a b (λ v. refl))

kids-cons : (u : ℕ) (ps : List Page) (v : ℕ) (x : Pair) (xs : List Pair) (high : ℕ) (y : Item) → 0 < u → y.up ≡ u - 1 → y.root ≡ false
    → y.low ≡ x.key → y.high ≡ first_key xs high → y.page ≡ x.value
    → kids u ps v (x ∷ xs) high ≡ seen_of ps v y ++ kids u ps v xs high
unfolding kids seen_of
kids-cons zero ps v x xs high y h a b c d e = absurd (omega arith)
kids-cons (suc u) ps v x xs high y h a b c d e =
    let f : y.up ≡ u = omega arith in rw (f, b, c, d, e) (spread-cons (seen_below u ps v false) x xs high)

-- over a stretch
pub kids-next : (g : Seen → Bool) (u : ℕ) (ps : List Page) (a b : ℕ) (x : Pair) (xs : List Pair) (high : ℕ) (y : Item) → 0 < u
    → y.up ≡ u - 1 → y.root ≡ false → y.low ≡ x.key → y.high ≡ first_key xs high → y.page ≡ x.value
    → y.from ≡ a → y.upto ≡ b → any g (kids_in u ps a b (x ∷ xs) high) ≡ (any g (span_of ps y) || any g (kids_in u ps a b xs high))
unfolding kids_in span_of
kids-next g u ps a b x xs high y h up root low hi page from upto =
    over-both g (λ (v : ℕ). kids u ps v (x ∷ xs) high) (λ (v : ℕ). seen_of ps v y) (λ (v : ℕ). kids u ps v xs high) a b
    (λ v. kids-cons u ps v x xs high y h up root low hi page)
    ∙ ap (λ (l : List Seen). any g l || any g (over (λ (v : ℕ). kids u ps v xs high) a b))
    (sym (ap₂ (over (λ (v : ℕ). seen_of ps v y)) from upto))

-- of a leaf nothing but itself is seen
pub leaf-number : (ps : List Page) (it : Item) (m : ℕ) → it.up ≡ 0 → it.from < it.upto
    → any (is_number m) (span_of ps it) ≡ eqb m it.page
unfolding span_of
leaf-number ps it m e lt = over-const (is_number m) (λ (v : ℕ). seen_of ps v it) (eqb m it.page) it.from it.upto lt at
  where
    alone : (v : ℕ) (xs : List Pair) → kids it.up ps v xs it.high ≡ []
    alone v xs = ap (λ (u : ℕ). kids u ps v xs it.high) e ∙ kids-zero ps v xs it.high

    at : (v : ℕ) → any (is_number m) (seen_of ps v it) ≡ eqb m it.page
    at v =
        ap (any (is_number m)) (seen-item ps v it ∙ ap (λ (xs : List Seen). here ps v it ∷ xs) (alone v (pairs_at v (page ps it.page))))
        ∙ ap (λ (b : Bool). b || false) (number-here ps v it m) ∙ or-false (eqb m it.page)

-- the live pairs of a page of the store
pub pairs-here : (least : ℕ) (s : List ℕ) (v n : ℕ) → IsPage least s n
    → pairs_at v (page (decode least s).pages n) ≡ pairs_from (page_of least s n) v 0 (count_at least s n)
unfolding pairs_from
pairs-here least s v n h =
    let e : 128 + 96 * 0 ≡ 128 = omega arith in
    let z : count_at least s n - 0 ≡ count_at least s n = omega arith in
    rw (page-at least s n h.0 h.1, entries-of least (page_of least s n), e, z)
