-- The last digits are put, and those of `n` are left. Assumes nothing.
use Rattle.lines.proofs.Laying.{PutFrom}
use Rattle.lines.proofs.saying.put_digits.Given as goal

abbrev pub invariant-loop-i : goal.invariant-loop-i
invariant-loop-i g l = PutFrom g.row.N l.initial.n l.initial.out l.at l.i l.n l.out
