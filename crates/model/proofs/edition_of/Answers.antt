use borrow.Author.Tests.{le-leb, lt-leb}
use Rattle.model.proofs.edition_of.Goals as goal

pub returns-then-least-le4 : goal.returns-then-least-le4
returns-then-least-le4 c = simp (le-leb _ _ c.if-least-le4.true)

pub returns : goal.returns
returns c = simp (lt-leb _ _ c.if-least-le4.false)
