-- No slot before i has its version behind v and before q.
use Prim.Native.Nat.{ℕ, ◌<◌}
use Rattle.model.specs.Inner.{Out}
use Rattle.local.specs.Local.{slot_at}
use Rattle.notes.specs.Ready.{BehindUpto}
use Rattle.convert.proofs.skip.slots_change.Given as goal

abbrev pub invariant-loop-i : goal.invariant-loop-i
invariant-loop-i l = BehindUpto l.v l.r l.q × ((j : ℕ) → j < l.i → Out l.v l.q (slot_at l.k.least l.s j).version)
