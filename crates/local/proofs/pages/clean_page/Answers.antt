-- `local::pages::clean_page` meets its contract: the room, and the two stretches of zero bits. Assumes nothing.
use Rattle.model.proofs.Edition.{edition}
use borrow.Author.Rules.{rules}
use Rattle.local.proofs.laws.Pages.{clean-is}
use Rattle.local.proofs.pages.clean_page.Goals as goal

pub returns-then-zero_from : goal.returns-then-zero_from
returns-then-zero_from c = rw (clean-is (edition c.args.l) c.args.page.now c.head_of-h.result c.head_of-h.ensures) (search rules)

pub returns-else-zero_from : goal.returns-else-zero_from
returns-else-zero_from c = rw (clean-is (edition c.args.l) c.args.page.now c.head_of-h.result c.head_of-h.ensures) (search rules)
