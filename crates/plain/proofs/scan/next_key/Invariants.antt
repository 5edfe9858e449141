-- `next_key` meets its contract: the items passed say nothing of the keys skipped. Assumes nothing.
use Rattle.plain.proofs.laws.Scan.{Skipping}
use Rattle.plain.proofs.scan.next_key.Given as goal

abbrev pub invariant-loop-i : goal.invariant-loop-i
invariant-loop-i l = Skipping l.a l.r l.u l.v l.items l.i l.n
