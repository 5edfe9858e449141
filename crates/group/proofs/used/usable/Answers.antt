use Rattle.group.proofs.laws.Numbers.{numbers-are, numbered-self, take-two, actives-two, usable-two}
use Rattle.group.specs.Group.{routers_of}
use Rattle.parts.specs.Kept.{pages_of}
use Rattle.model.specs.Needs.{actives}
use lib.ListN.{take}
use Rattle.model.specs.Store.{free_ones}
use Rattle.group.proofs.used.usable.Goals as goal

pub first_two-requires : goal.first_two-requires
first_two-requires c =
    let ps = pages_of c.args.l c.args.s.now in (
      numbered-self c.active_ones.result (actives c.args.w ps (routers_of c.args.rs))
          c.active_ones.ensures (actives-two c.args.w ps c.args.rs),
      numbered-self c.free_ones.result (take 2 (free_ones ps)) c.free_ones.ensures (take-two (free_ones ps)),
    )

pub returns : goal.returns
returns c =
    let ps = pages_of c.args.l c.args.s.now in
    rw (← usable-two c.args.w ps c.args.rs)
    (rw (
      numbers-are c.active_ones.result (actives c.args.w ps (routers_of c.args.rs))
          c.active_ones.ensures (actives-two c.args.w ps c.args.rs),
      numbers-are c.free_ones.result (take 2 (free_ones ps)) c.free_ones.ensures (take-two (free_ones ps)),
    ) at c.first_two.ensures)
