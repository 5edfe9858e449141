-- `judge` meets its contract: a sound store's number is 0. Assumes nothing.
use mathlib.Core.Path.{sym}
use Rattle.reads.proofs.laws.Guard.{sound-zero}
use Rattle.changes.proofs.judge.Goals as goal

pub returns-then-sure : goal.returns-then-sure
returns-then-sure c = let a = c.args in sym (sound-zero a.l.least a.s.now (c.requires c.if-sure.true))
