-- `local::seventh::page_young` meets its contract: the tests of a page's front and of its entries. Assumes nothing.
use borrow.Author.Rules.{rules}
use Rattle.local.proofs.laws.Seventh.{young-is}
use Rattle.local.proofs.seventh.page_young.Goals as goal

pub returns-then-h-w : goal.returns-then-h-w
returns-then-h-w c =
    let a = c.args in rw (young-is a.l.least a.s.now a.n a.w, ← c.part-p.ensures.0, ← c.head_of-h.ensures) (search rules)

pub returns-else-h-w : goal.returns-else-h-w
returns-else-h-w c =
    let a = c.args in rw (young-is a.l.least a.s.now a.n a.w, ← c.part-p.ensures.0, ← c.head_of-h.ensures) (search rules)
