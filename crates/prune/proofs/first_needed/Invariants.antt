-- No slot before the one before k is needed.
use Prim.Native.Nat.{◌-◌}
use Rattle.model.specs.Layout.{decode}
use Rattle.prune.proofs.laws.Needed.{NoneNeeded}
use Rattle.prune.proofs.first_needed.Given as goal

abbrev pub invariant-loop-k : goal.invariant-loop-k
invariant-loop-k l = NoneNeeded l.v (decode l.l.least l.s).slots (l.k - 1)
