-- How a call that tells (Told) goes about it, for things of any kind: they are counted first, and written in a second pass, one behind the
-- other. Words of contracts inside the code, as Inner; the laws stand in proofs/Telling.
-- Assumes nothing.
use Rattle.std.specs.Prelude.{ℕ, ◌+◌, ◌*◌, ◌^◌, ◌≤◌, Bool, true, ◌≡◌, refl, List, length}
use Rattle.std.proofs.lemmas.List.Edits.{sets}
use Rattle.model.specs.Basic.{pick, flat_map}
use Rattle.model.specs.declared.Delta.{Delta}
use Rattle.model.specs.Differ.{delta_numbers}

-- how a thing is told: its numbers, so many for each
pub record Shape (A : Type 0) : Type 0 where
  pub numbers : A → List ℕ
  pub each : ℕ
  pub size : (x : A) → length (numbers x) ≡ each

module _ {A : Type 0} (t : Shape A) where
  abbrev pub all_numbers : List A → List ℕ
  all_numbers xs = flat_map t.numbers xs

  -- a list with things written behind the first k, or as it was where they are only counted
  unfoldable pub written : Bool → List ℕ → ℕ → List A → List ℕ
  written w ns k xs = pick w (sets ns (t.each * k) (all_numbers xs)) ns

  -- things behind the first k can be counted, and written where they are to be
  pub record Space (w : Bool) (ns : List ℕ) (k : ℕ) (xs : List A) : Type 0 where
    pub few : k + length xs ≤ 2 ^ 40
    pub room : w ≡ true → t.each * (k + length xs) ≤ length ns

  -- a call that gives the new count and leaves the list so
  pub record Gathers (w : Bool) (ns ns' : List ℕ) (k r : ℕ) (xs : List A) : Type 0 where
    pub count : r ≡ k + length xs
    pub list : ns' ≡ written w ns k xs

-- "Each takes four numbers"
abbrev pub deltas : Shape Delta
deltas = record { numbers = delta_numbers; each = 4; size = λ d. refl }
