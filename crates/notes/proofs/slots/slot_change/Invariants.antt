-- `notes::slots::slot_change` meets its contract: no slot before i has its version behind v and before q. Assumes nothing.
use Prim.Native.Nat.{ℕ, ◌<◌}
use Rattle.notes.specs.Ready.{BehindUpto}
use Rattle.local.specs.Local.{slot_at}
use Rattle.model.specs.Inner.{Out}
use Rattle.notes.proofs.slots.slot_change.Given as goal

abbrev pub invariant-loop-i : goal.invariant-loop-i
invariant-loop-i l = BehindUpto l.v l.r l.q × ((k : ℕ) → k < l.i → Out l.v l.q (slot_at l.l.least l.s k).version)
