-- The slots that are needed from a version on are those from one place on.
use Rattle.std.specs.Prelude.{ℕ, ◌<◌, ◌≡◌, List, length, drop}
use Rattle.model.specs.declared.Slot.{Slot}
use Rattle.model.specs.Calls.{needed}

-- they are those from place r on
pub record Needed (v : ℕ) (xs : List Slot) (r : ℕ) : Type 0 where
  pub inside : r < length xs
  pub is : needed v xs ≡ drop r xs
