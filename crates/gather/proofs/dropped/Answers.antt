-- `gather::dropped` meets its contract: the keys that a change drops are the first of two. Assumes nothing.
use mathlib.Core.Path.{◌∙◌}
use Rattle.edit.specs.Change.{change_of}
use Rattle.edit.proofs.laws.Same.{among-is}
use Rattle.gather.proofs.dropped.Goals as goal

pub returns : goal.returns
unfolding change_of
returns c = c.among.ensures ∙ among-is c.args.k c.args.c.drops c.args.c.drop1 c.args.c.drop2
