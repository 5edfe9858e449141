-- `local::front::header_right` meets its contract: the page count, the zero bits and the number of roots. Assumes nothing.
use Rattle.model.proofs.Edition.{edition}
use borrow.Author.Rules.{rules}
use Rattle.local.proofs.laws.Right.{header-is}
use Rattle.local.proofs.front.header_right.Goals as goal

pub returns-then-roots-l : goal.returns-then-roots-l
returns-then-roots-l c =
    let a = c.args in rw (header-is (edition c.args.l) a.s.now a.size c.requires.0 a.h c.requires.1) (search rules)

pub returns-else-roots-l : goal.returns-else-roots-l
returns-else-roots-l c =
    let a = c.args in rw (header-is (edition c.args.l) a.s.now a.size c.requires.0 a.h c.requires.1) (search rules)
