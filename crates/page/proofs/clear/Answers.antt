-- `page::clear` meets its contract: a copy of a byte is that byte. Assumes nothing.
use Rattle.model.specs.Field.{zeros}
use Rattle.page.proofs.clear.Goals as goal

pub returns : goal.returns
unfolding zeros
returns c = c.fill.ensures.after (λ y h. h)
