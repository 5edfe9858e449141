use Rattle.parts.proofs.laws.Kept.{part_in, short, shown, counted}
use Rattle.parts.proofs.has_enough.Goals as goal

pub part-requires : goal.part-requires
part-requires c = let k = c.requires.0 in (part_in k c.requires.1, short k)

pub has_enough-requires : goal.has_enough-requires
has_enough-requires c = (rw c.part.ensures.0 (counted c.requires.0 c.requires.1), c.requires.2)

pub returns : goal.returns
returns c = rw (← shown c.requires.0 c.requires.1) (rw c.part.ensures.0 at c.has_enough.ensures)
