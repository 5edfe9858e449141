-- `page::front` meets its contract: the four fields are read one behind the other. Assumes nothing.
use Rattle.page.specs.Head.{front_by}
use Rattle.page.proofs.front.Goals as goal

pub returns : goal.returns
unfolding front_by
returns c = cc
