-- `reach::live::starts_at` meets its contract: the first live entry, or none. Assumes nothing.
use borrow.Author.Rules.{rules}
use Rattle.reach.proofs.laws.Live.{starts_none, starts_first}
use Rattle.reach.proofs.live.starts_at.Goals as goal

pub returns-then-n-j : goal.returns-then-n-j
returns-then-n-j c =
    let a = c.args in
    rw (starts_none a.page.now a.v 0 a.n c.next_live-j.result a.low c.next_live-j.ensures c.if-n-j.true) (search rules)

pub returns-else-n-j : goal.returns-else-n-j
returns-else-n-j c =
    let a = c.args in
    rw (starts_first a.page.now a.v 0 a.n c.next_live-j.result a.low c.next_live-j.ensures c.if-n-j.false) (search rules)
