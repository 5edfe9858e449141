-- Slots in their bytes, and the slots of the directory with those unused behind them.
use Rattle.std.specs.Prelude.{◌^◌, ◌<◌, List, [], ◌∷◌}
use Rattle.model.specs.declared.Slot.{Slot}
use Rattle.model.specs.Field.{Part, ◌bits◌}

-- "version 20, root page 12"
abbrev pub slot_parts : Slot → List Part
slot_parts x = 20 bits x.version ∷ 12 bits x.root ∷ []

-- each field fits its bits
pub record SlotFits (x : Slot) : Type 0 where
  pub version : x.version < 2 ^ 20
  pub root : x.root < 2 ^ 12
