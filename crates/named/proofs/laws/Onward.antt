-- A range from its lowest key on: its first setting, and what stands behind it.
-- Assumes nothing.
use Prim.Native.Nat.{ℕ, ◌+◌, ◌≤◌, ◌<◌}
use native.Mathlib.Omega.{arith}
use mathlib.Core.Bool.{Bool, true, false, ◌&&◌, and-false}
use mathlib.Core.Path.{◌≡◌, refl, ap, ap₂, sym, ◌∙◌}
use mathlib.Core.List.{List, [], ◌∷◌}
use lib.Dec.{leb, ltb, eqb}
use borrow.Author.Tests.{leb-true, leb-false, ltb-true, le-leb, lt-leb}
use Rattle.model.specs.Basic.{all, keep}
use Rattle.model.specs.declared.Pair.{Pair}
use Rattle.model.specs.declared.Limits.{Limits}
use Rattle.model.specs.Walk.{settings, between, range_of, key_limit}
use Rattle.model.specs.Layout.{decode}
use Rattle.model.specs.Kinds.{known_in, unknown}
use Rattle.model.specs.Named.{all_known}
use Rattle.model.specs.Inner.{rising}
use Rattle.model.proofs.lists.Lists.{all_cons, both_true}
use Rattle.model.proofs.reading.Ranges.{range-is}
use Rattle.store.proofs.laws.Sure.{sure}
use Rattle.walk.specs.Sure.{Walkable}
use Rattle.cursor.specs.First.{at_or_above, leads}

-- each key is above m
abbrev over : ℕ → List Pair → Bool
over m xs = all (λ (y : Pair). ltb m y.key) xs

-- ---- the first setting at or above k

pub leads-low : (k : ℕ) (xs : List Pair) → (leads (at_or_above k xs)).key < key_limit → k ≤ (leads (at_or_above k xs)).key
leads-low k [] h = absurd (omega arith)
leads-low k (x ∷ xs) h = at (leb k x.key) refl h (leads-low k xs)
  where
    at : (b : Bool) → leb k x.key ≡ b → (leads (keep b x (at_or_above k xs))).key < key_limit
        → ((leads (at_or_above k xs)).key < key_limit → k ≤ (leads (at_or_above k xs)).key)
        → k ≤ (leads (keep b x (at_or_above k xs))).key
    at true e h ih = leb-true k x.key e
    at false e h ih = ih h

-- ---- a range that is empty

pub between-gap : (k hi : ℕ) (xs : List Pair) → hi < k → between k hi xs ≡ []
between-gap k hi [] h = refl
between-gap k hi (x ∷ xs) h = at (leb k x.key) refl (leb x.key hi) refl (between-gap k hi xs h)
  where
    at : (a : Bool) → leb k x.key ≡ a → (b : Bool) → leb x.key hi ≡ b → between k hi xs ≡ [] → keep (a && b) x (between k hi xs) ≡ []
    at true e true f ih = absurd (omega (arith, leb-true k x.key e, leb-true x.key hi f))
    at true e false f ih = ih
    at false e b f ih = ih

between-over : (k hi m : ℕ) (xs : List Pair) → over m xs ≡ true → hi ≤ m → between k hi xs ≡ []
between-over k hi m [] o h = refl
between-over k hi m (x ∷ xs) o h =
    let (here, rest) = all_cons (λ (y : Pair). ltb m y.key) x xs o in
    let e : leb x.key hi ≡ false = lt-leb x.key hi (omega (arith, ltb-true m x.key here)) in
    ap (λ (b : Bool). keep (leb k x.key && b) x (between k hi xs)) e
    ∙ ap (λ (b : Bool). keep b x (between k hi xs)) (and-false (leb k x.key)) ∙ between-over k hi m xs rest h

-- the first setting at or above k is above hi
pub between_none : (k hi : ℕ) (xs : List Pair) → rising xs ≡ true → hi < (leads (at_or_above k xs)).key → between k hi xs ≡ []
between_none k hi [] r h = refl
between_none k hi (x ∷ xs) r h =
    let (o, rest) = both_true (over x.key xs) (rising xs) r in
    at (leb k x.key) refl o h (between_none k hi xs rest)
  where
    at : (b : Bool) → leb k x.key ≡ b → over x.key xs ≡ true → hi < (leads (keep b x (at_or_above k xs))).key
        → (hi < (leads (at_or_above k xs)).key → between k hi xs ≡ [])
        → keep (b && leb x.key hi) x (between k hi xs) ≡ []
    at true e o h ih = ap (λ (b : Bool). keep b x (between k hi xs)) (lt-leb x.key hi h) ∙ between-over k hi x.key xs o (omega arith)
    at false e o h ih = ih h

-- ---- a range with a first setting

-- where all keys are above m, it is one whether a range begins at k or behind m
between-same : (k hi m : ℕ) (xs : List Pair) → over m xs ≡ true → k ≤ m → between k hi xs ≡ between (m + 1) hi xs
between-same k hi m [] o h = refl
between-same k hi m (x ∷ xs) o h =
    let (here, rest) = all_cons (λ (y : Pair). ltb m y.key) x xs o in
    let above = ltb-true m x.key here in
    let e : leb k x.key ≡ leb (m + 1) x.key = le-leb k x.key (omega (arith, above))
    ∙ sym (le-leb (m + 1) x.key (omega (arith, above))) in
    ap₂ (λ (b : Bool) (ys : List Pair). keep (b && leb x.key hi) x ys) e (between-same k hi m xs rest h)

pub between_next : (k hi : ℕ) (xs : List Pair) → rising xs ≡ true → hi < key_limit → (leads (at_or_above k xs)).key ≤ hi
    → between k hi xs ≡ leads (at_or_above k xs) ∷ between ((leads (at_or_above k xs)).key + 1) hi xs
between_next k hi [] r t h = absurd (omega arith)
between_next k hi (x ∷ xs) r t h =
    let (o, rest) = both_true (over x.key xs) (rising xs) r in
    at (leb k x.key) refl o h (between_next k hi xs rest t)
  where
    at : (b : Bool) → leb k x.key ≡ b → over x.key xs ≡ true → (leads (keep b x (at_or_above k xs))).key ≤ hi
        → ((leads (at_or_above k xs)).key ≤ hi → between k hi xs ≡ leads (at_or_above k xs) ∷ between ((leads (at_or_above k xs)).key + 1) hi xs)
        → keep (b && leb x.key hi) x (between k hi xs)
        ≡ leads (keep b x (at_or_above k xs)) ∷ keep (leb ((leads (keep b x (at_or_above k xs))).key + 1) x.key && leb x.key hi) x
        (between ((leads (keep b x (at_or_above k xs))).key + 1) hi xs)
    at true e o h ih =
        ap (λ (b : Bool). keep b x (between k hi xs)) (le-leb x.key hi h)
        ∙ ap (λ (ys : List Pair). x ∷ ys)
        (between-same k hi x.key xs o (leb-true k x.key e)
        ∙ sym (ap (λ (b : Bool). keep (b && leb x.key hi) x (between (x.key + 1) hi xs)) (lt-leb (x.key + 1) x.key (omega arith))))
    at false e o h ih =
        let y : Pair = leads (at_or_above k xs) in
        let low = leads-low k xs (omega (arith, h, t)) in
        ih h ∙ ap (λ (ys : List Pair). y ∷ ys)
        (sym (ap (λ (b : Bool). keep (b && leb x.key hi) x (between (y.key + 1) hi xs))
        (lt-leb (y.key + 1) x.key (omega (arith, low, leb-false k x.key e)))))

-- what a range finds on a sound store
pub range-between : {l : Limits} {b : List ℕ} {v : ℕ} → Walkable l b v → (lo hi : ℕ) → lo < key_limit
    → range_of (decode l.least b) lo hi v ≡ between lo hi (settings (decode l.least b) v)
range-between {l} {b} {v} r lo hi low =
    range-is l.least (omega (arith, r.edition.four)) (decode l.least b) (sure r.edition b r.sound) lo hi v low r.version

-- ---- whether its keys are known, by its first setting

module _ (table : List ℕ) (k hi : ℕ) (xs : List Pair) (r : rising xs ≡ true) where
  pub known-none : hi < (leads (at_or_above k xs)).key → all_known table (between k hi xs) ≡ true
  known-none h = ap (all_known table) (between_none k hi xs r h)

  module _ (t : hi < key_limit) (h : (leads (at_or_above k xs)).key ≤ hi) where
    by_first : all_known table (between k hi xs) ≡
        (eqb (unknown (known_in table (leads (at_or_above k xs)).key)) 0 && all_known table (between ((leads (at_or_above k xs)).key + 1) hi xs))
    by_first = ap (all_known table) (between_next k hi xs r t h)

    pub known-not : eqb (unknown (known_in table (leads (at_or_above k xs)).key)) 0 ≡ false → all_known table (between k hi xs) ≡ false
    known-not e = by_first ∙ ap (λ (b : Bool). b && all_known table (between ((leads (at_or_above k xs)).key + 1) hi xs)) e

    pub known_on : eqb (unknown (known_in table (leads (at_or_above k xs)).key)) 0 ≡ true
        → all_known table (between ((leads (at_or_above k xs)).key + 1) hi xs) ≡ all_known table (between k hi xs)
    known_on e = sym (by_first ∙ ap (λ (b : Bool). b && all_known table (between ((leads (at_or_above k xs)).key + 1) hi xs)) e)

pub known_over : (table : List ℕ) (k hi : ℕ) (xs : List Pair) → hi < k → all_known table (between k hi xs) ≡ true
known_over table k hi xs h = ap (all_known table) (between-gap k hi xs h)
