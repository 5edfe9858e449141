-- `local::third::link_fine` meets its contract: a router that ended by then, or any other entry. Assumes nothing.
use borrow.Author.Rules.{rules}
use Rattle.local.proofs.laws.Third.{link-ok-is}
use Rattle.local.proofs.third.link_fine.Goals as goal

pub returns-then-skips : goal.returns-then-skips
returns-then-skips c =
    let a = c.args in rw (link-ok-is a.l.least a.s.now a.n a.e a.h c.requires.1 a.old c.requires.3) (search rules)

pub returns-else-skips : goal.returns-else-skips
returns-else-skips c =
    let a = c.args in rw (link-ok-is a.l.least a.s.now a.n a.e a.h c.requires.1 a.old c.requires.3) (search rules)
