-- `local::second::second_rule` meets its contract: its two halves. Assumes nothing.
use borrow.Author.Rules.{rules}
use Rattle.local.proofs.laws.Second.{rule2-is}
use Rattle.local.proofs.second.second_rule.Goals as goal

pub returns-then-slots_begin : goal.returns-then-slots_begin
returns-then-slots_begin c = rw (rule2-is c.args.l.least c.args.s.now) (search rules)

pub returns-else-slots_begin : goal.returns-else-slots_begin
returns-else-slots_begin c = rw (rule2-is c.args.l.least c.args.s.now) (search rules)
