-- `gather::Gather::entered` meets its contract: the pairs before the place, the pair, and the others behind it. Assumes nothing.
use Rattle.gather.proofs.laws.Place.{lists-entered}
use Rattle.gather.proofs.Gather.entered.Goals as goal

pub returns : goal.returns
returns c =
    rw c.copy_from_slice.ensures.after
    (lists-entered c.args.self c.args.x c.place-p.result c.requires.0 c.requires.1 c.requires.2
    c.place-p.ensures.place c.place-p.ensures.within)
