-- `change_after` meets its contract: up to u the answer has not changed. Assumes nothing.
use Prim.Native.Nat.{suc, ◌-◌}
use Rattle.model.specs.Walk.{lookup}
use Rattle.model.specs.Layout.{decode}
use Rattle.model.proofs.reading.Lives.{Lasting}
use Rattle.life.proofs.change_after.Given as goal

abbrev pub invariant-loop-u : goal.invariant-loop-u
invariant-loop-u l = Lasting l.c (lookup (decode l.l.least l.s) l.key) l.v l.u

abbrev pub decreases-loop-u : goal.decreases-loop-u
decreases-loop-u l = suc l.c - l.u
