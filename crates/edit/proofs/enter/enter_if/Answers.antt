-- `edit::enter::enter_if` meets its contract: each case. Assumes nothing.
use mathlib.Core.Path.{sym}
use Rattle.edit.proofs.enter.enter_if.Goals as goal

pub returns-then-yes : goal.returns-then-yes
returns-then-yes c = rw c.if-yes.true c.enter.ensures

pub returns-else-yes : goal.returns-else-yes
returns-else-yes c = rw c.if-yes.false (sym c.requires.0.same)
