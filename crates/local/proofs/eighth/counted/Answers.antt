-- `local::eighth::counted` meets its contract: a free page, or the count of its entries. Assumes nothing.
use borrow.Author.Rules.{rules}
use Rattle.local.proofs.laws.Eighth.{count-is}
use Rattle.local.proofs.eighth.counted.Goals as goal

pub returns-then-h-eq0 : goal.returns-then-h-eq0
returns-then-h-eq0 c =
    let a = c.args in
    rw (← c.part-p.ensures.0, count-is a.l.least c.part-p.result.now c.head_of-h.result c.head_of-h.ensures) (search rules)

pub returns-else-h-eq0 : goal.returns-else-h-eq0
returns-else-h-eq0 c =
    let a = c.args in
    rw (← c.part-p.ensures.0, count-is a.l.least c.part-p.result.now c.head_of-h.result c.head_of-h.ensures) (search rules)
