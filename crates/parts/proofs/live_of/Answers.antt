use Rattle.parts.proofs.laws.Kept.{part_in, short, shown, counted}
use Rattle.parts.proofs.live_of.Goals as goal

pub part-requires : goal.part-requires
part-requires c = let k = c.requires.0 in (part_in k c.requires.1, short k)

pub live_pairs-requires : goal.live_pairs-requires
live_pairs-requires c = rw c.part.ensures.0 (counted c.requires.0 c.requires.1)

pub returns : goal.returns
returns c = rw (← shown c.requires.0 c.requires.1) (rw c.part.ensures.0 at c.live_pairs.ensures)
