-- `low_end` meets its contract. Assumes nothing.
use mathlib.Core.Path.{refl}
use Rattle.turn.proofs.laws.Whole.{low-five, low-six}
use Rattle.turn.proofs.low_end.Goals as goal

pub returns-then-l-le4 : goal.returns-then-l-le4
returns-then-l-le4 c = let a = c.args in low-five a.l.least a.w a.w c.if-l-le4.true refl

pub returns-else-l-le4 : goal.returns-else-l-le4
returns-else-l-le4 c = let a = c.args in low-six a.l.least a.w a.w c.if-l-le4.false refl
