-- The open version's slot: whether there is one, where it stands, and what a new root makes of the slots.
-- Assumes nothing.
use Prim.Native.Nat.{ℕ, zero, suc, ◌+◌, ◌≤◌, ◌<◌}
use native.Mathlib.Omega.{arith}
use mathlib.Core.Bool.{Bool, true, false, ◌||◌, not}
use mathlib.Core.Path.{◌≡◌, refl, ap}
use mathlib.Core.List.{List, [], ◌∷◌, ◌++◌}
use lib.Dec.{leb, ltb, eqb}
use lib.ListN.{length, get_or, set, length-append}
use borrow.Author.Tests.{le-leb, lt-leb, leb-true, ltb-true, ltb-false, ne_eqb}
use Rattle.model.specs.Basic.{keep, those, any, all, in_order}
use Rattle.model.specs.declared.Slot.{Slot}
use Rattle.model.specs.Layout.{no_slot}
use Rattle.model.specs.Climb
use Rattle.model.specs.Climb.{put_slot}
use Rattle.model.proofs.lists.Lists.{both_true, all_cons}
use Rattle.model.proofs.lists.Members.{not-both}
use Rattle.model.proofs.older.Past.{by_slot}

module _ (w : ℕ) where
  abbrev is : Slot → Bool
  is x = eqb x.version w

  abbrev other : Slot → Bool
  other x = not (eqb x.version w)

  fewer-or-same : (xs : List Slot) → length (those other xs) ≤ length xs
  fewer-or-same [] = omega arith
  fewer-or-same (x ∷ xs) = at (is x) (fewer-or-same xs)
    where
      at : (b : Bool) → length (those other xs) ≤ length xs → length (keep (not b) x (those other xs)) ≤ suc (length xs)
      at true ih = omega arith
      at false ih = omega arith

  -- a slot of w is replaced
  fewer : (xs : List Slot) → any is xs ≡ true → length (those other xs) < length xs
  fewer [] h = absurd (not-both false h refl)
  fewer (x ∷ xs) h = at (is x) h (fewer xs)
    where
      at : (b : Bool) → (b || any is xs) ≡ true → (any is xs ≡ true → length (those other xs) < length xs)
          → length (keep (not b) x (those other xs)) < suc (length xs)
      at true h ih = omega (arith, fewer-or-same xs)
      at false h ih = omega (arith, ih h)

  -- else all stay
  all-other : (xs : List Slot) → any is xs ≡ false → those other xs ≡ xs
  all-other [] h = refl
  all-other (x ∷ xs) h = at (is x) h (all-other xs)
    where
      at : (b : Bool) → (b || any is xs) ≡ false → (any is xs ≡ false → those other xs ≡ xs) → keep (not b) x (those other xs) ≡ x ∷ xs
      at true h ih = absurd (not-both true refl h)
      at false h ih = ap (λ (ys : List Slot). x ∷ ys) (ih h)

  -- a new root finds a slot if its version has one or not all are taken
  pub slot-left : (n most : ℕ) (xs : List Slot) → length xs ≤ most
      → leb (length (put_slot w n xs)) most ≡ (any is xs || ltb (length xs) most)
  unfolding Climb.put_slot
  slot-left n most xs h = rw (length-append (those other xs) (record { version = w; root = n } ∷ [])) (at (any is xs) refl)
    where
      at : (b : Bool) → any is xs ≡ b → leb (length (those other xs) + 1) most ≡ (b || ltb (length xs) most)
      at true e = le-leb (length (those other xs) + 1) most (omega (arith, fewer xs e))
      at false e = rw (all-other xs e) (by (ltb (length xs) most) refl)
        where
          by : (b : Bool) → ltb (length xs) most ≡ b → leb (length xs + 1) most ≡ b
          by true z = le-leb (length xs + 1) most (omega (arith, ltb-true (length xs) most z))
          by false z = lt-leb (length xs + 1) most (omega (arith, ltb-false (length xs) most z))

  -- versions rise and none is above w: the slot of w is the last one
  pub last-slot : (n : ℕ) (xs : List Slot) → length xs ≡ suc n → in_order by_slot xs ≡ true → all (λ (x : Slot). leb x.version w) xs ≡ true
      → any is xs ≡ eqb (get_or xs n no_slot).version w
  last-slot n [] e o h = absurd (omega arith)
  last-slot zero (x ∷ []) e o h = at (is x)
    where
      at : (b : Bool) → (b || false) ≡ b
      at true = refl
      at false = refl
  last-slot (suc n) (x ∷ []) e o h = absurd (omega arith)
  last-slot zero (x ∷ y ∷ xs) e o h = absurd (omega arith)
  last-slot (suc n) (x ∷ y ∷ xs) e o h =
      let (first, later) = both_true (all (by_slot x) (y ∷ xs)) (in_order by_slot (y ∷ xs)) o in
      let (here, rest) = all_cons (λ (z : Slot). leb z.version w) x (y ∷ xs) h in
      let less : x.version < y.version = ltb-true x.version y.version (all_cons (by_slot x) y xs first).0 in
      let most : y.version ≤ w = leb-true y.version w (all_cons (λ (z : Slot). leb z.version w) y xs rest).0 in
      rw (ne_eqb x.version w (λ (z : x.version ≡ w). omega arith)) (last-slot n (y ∷ xs) (omega arith) later rest)

  -- it takes a slot behind the others, or that one
  pub put-new : (n : ℕ) (xs : List Slot) → any is xs ≡ false → put_slot w n xs ≡ xs ++ (record { version = w; root = n } ∷ [])
  unfolding Climb.put_slot
  put-new n xs h = ap (λ (ys : List Slot). ys ++ (record { version = w; root = n } ∷ [])) (all-other xs h)

  pub put-over : (n i : ℕ) (xs : List Slot) → length xs ≡ suc i → in_order by_slot xs ≡ true
      → all (λ (x : Slot). leb x.version w) xs ≡ true → any is xs ≡ true
      → put_slot w n xs ≡ set xs i (record { version = w; root = n })
  unfolding Climb.put_slot
  put-over n i [] e o h a = absurd (omega arith)
  put-over n zero (x ∷ []) e o h a = at (is x) a
    where
      at : (b : Bool) → (b || false) ≡ true → keep (not b) x [] ++ (record { version = w; root = n } ∷ [])
          ≡ record { version = w; root = n } ∷ []
      at true z = refl
      at false z = absurd (not-both false z refl)
  put-over n (suc i) (x ∷ []) e o h a = absurd (omega arith)
  put-over n zero (x ∷ y ∷ xs) e o h a = absurd (omega arith)
  put-over n (suc i) (x ∷ y ∷ xs) e o h a =
      let (first, later) = both_true (all (by_slot x) (y ∷ xs)) (in_order by_slot (y ∷ xs)) o in
      let (here, rest) = all_cons (λ (z : Slot). leb z.version w) x (y ∷ xs) h in
      let less : x.version < y.version = ltb-true x.version y.version (all_cons (by_slot x) y xs first).0 in
      let most : y.version ≤ w = leb-true y.version w (all_cons (λ (z : Slot). leb z.version w) y xs rest).0 in
      let no : eqb x.version w ≡ false = ne_eqb x.version w (λ (z : x.version ≡ w). omega arith) in
      rw no (ap {B = List Slot} (λ (ys : List Slot). x ∷ ys) (put-over n i (y ∷ xs) (omega arith) later rest (rw no at a)))
