-- The bytes from `from` to `end` are digits, and `value` is their number. Assumes nothing.
use Rattle.lines.proofs.LineParts.{SoFar}
use Rattle.lines.proofs.once.digits_at.Given as goal

abbrev pub invariant-loop-end : goal.invariant-loop-end
invariant-loop-end l = SoFar l.s l.from l.value l.end
