use Rattle.parts.proofs.laws.Kept.{part_in, short, shown, counted}
use Rattle.parts.proofs.has_room.Goals as goal

pub part-requires : goal.part-requires
part-requires c = let k = c.requires.0 in (part_in k c.requires.1, short k)

pub has_room-requires : goal.has_room-requires
has_room-requires c = (rw c.part.ensures.0 (counted c.requires.0 c.requires.1), c.requires.2)

pub returns : goal.returns
returns c = rw (← shown c.requires.0 c.requires.1) (rw c.part.ensures.0 at c.has_room.ensures)
