-- A call that tells a list of things: how many there are, and their numbers one thing after the other into the caller's list.
-- Assumes nothing.
use Rattle.std.specs.Prelude.{ℕ, zero, suc, ◌*◌, List, [], ◌∷◌, ltb, length}
use Rattle.model.specs.Basic.{flat_map}
use Rattle.model.specs.Calls.{rule, first_of, Ranged}

-- 14 "leaves the list alone; it gives the count .., as an accepted call does"
unfoldable pub told_in : {A : Type 0} → (A → List ℕ) → ℕ → List A → Ranged
told_in numbers zero xs = record { number = 0; count = length xs; written = flat_map numbers xs }
told_in numbers (suc n) xs = record { number = suc n; count = length xs; written = [] }

-- "14 is given when the list holds fewer than" each numbers for each of them. room: how many numbers the caller's list holds; the first
-- number is that of the refusals before 14: "any result not named here is 0"
unfoldable pub told_by : {A : Type 0} → (numbers : A → List ℕ) (each n room : ℕ) (xs : List A) → Ranged
told_by numbers each zero room xs = told_in numbers (first_of (rule 14 (ltb room (each * length xs)) ∷ [])) xs
told_by numbers each (suc n) room xs = record { number = suc n; count = 0; written = [] }
