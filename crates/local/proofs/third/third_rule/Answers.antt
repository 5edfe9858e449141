-- `local::third::third_rule` meets its contract: its two halves. Assumes nothing.
use borrow.Author.Rules.{rules}
use Rattle.local.proofs.laws.Third.{rule3-is}
use Rattle.local.proofs.third.third_rule.Goals as goal

pub returns-then-pages_linked : goal.returns-then-pages_linked
returns-then-pages_linked c = rw (rule3-is c.args.l.least c.args.s.now) (search rules)

pub returns-else-pages_linked : goal.returns-else-pages_linked
returns-else-pages_linked c = rw (rule3-is c.args.l.least c.args.s.now) (search rules)
