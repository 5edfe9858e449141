-- `local::front::fields_right` meets its contract: the zero bits and the counts, then the last version, then the oldest. Assumes nothing.
use borrow.Author.Rules.{rules}
use Rattle.store.proofs.laws.Read.{current-lt, oldest-of, current-of}
use Rattle.local.proofs.laws.First.{last-is}
use Rattle.local.proofs.front.fields_right.Goals as goal

pub last-requires : goal.last-requires
last-requires c = rw c.header-h.ensures (current-lt c.args.l.least c.args.s.now)

pub returns-then-last-le1048574 : goal.returns-then-last-le1048574
returns-then-last-le1048574 c =
    let a = c.args in
    rw (last-is a.l.least a.s.now, oldest-of a.l.least a.s.now, current-of a.l.least a.s.now, ← c.header-h.ensures) (search rules)

pub returns-else-last-le1048574 : goal.returns-else-last-le1048574
returns-else-last-le1048574 c =
    let a = c.args in
    rw (last-is a.l.least a.s.now, oldest-of a.l.least a.s.now, current-of a.l.least a.s.now, ← c.header-h.ensures) (search rules)
