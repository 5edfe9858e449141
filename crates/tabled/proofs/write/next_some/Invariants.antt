-- `write::next_some` meets its contract: what is found from place i on is found from place k on. Assumes nothing.
use Prim.Native.Nat.{◌-◌}
use Rattle.tabled.specs.Skips.{Skips}
use Rattle.tabled.proofs.write.next_some.Given as goal

abbrev pub invariant-loop-k : goal.invariant-loop-k
invariant-loop-k l = Skips l.l.least l.s l.q.version l.q.low l.q.high l.up l.n l.i l.k

abbrev pub decreases-loop-k : goal.decreases-loop-k
decreases-loop-k l = l.count - l.k
