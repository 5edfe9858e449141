-- Slots moved to the front one by one, unused ones behind them.
use Rattle.std.specs.Prelude.{ℕ, List, ◌++◌, drop, replicate}
use Rattle.model.specs.declared.Slot.{Slot}
use Rattle.model.specs.Layout.{no_slot}

-- those from place k on, and as many unused ones as went
unfoldable pub shifted : ℕ → List Slot → List Slot
shifted k xs = drop k xs ++ replicate k no_slot
