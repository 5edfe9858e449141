-- `slots_upto` meets its contract: the slot in the middle tells which half is left. Assumes nothing.
use Prim.Native.Nat.{◌*◌, ◌-◌}
use Rattle.walk.proofs.laws.Down.{Halved}
use Rattle.walk.proofs.slots_upto.Given as goal

abbrev pub invariant-loop-low : goal.invariant-loop-low
invariant-loop-low l = Halved l.s (512 * l.l.least) l.v l.n l.low l.high

abbrev pub decreases-loop-low : goal.decreases-loop-low
decreases-loop-low l = l.high - l.low
