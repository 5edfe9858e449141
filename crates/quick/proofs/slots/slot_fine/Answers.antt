use Rattle.model.proofs.Edition.{edition}
use Rattle.notes.proofs.laws.Here.{part-asks, room-here}
use Rattle.quick.proofs.laws.Here.{order-part}
use Rattle.store.proofs.laws.Read.{page-at}
use Rattle.local.specs.Local.{IsPage, slot_at}
use mathlib.Core.Path.{◌∙◌}
use native.Mathlib.Omega.{arith}
use Rattle.quick.proofs.slots.slot_fine.Goals as goal
use Rattle.quick.proofs.slots.slot_fine.Goals.{After-slot-x}

-- the slot's root is a page
rooted : (c : After-slot-x) → let a = c.args in IsPage a.l.least a.s.now c.slot-x.result.root
rooted c =
    let r = c.requires in rw c.slot-x.ensures (r.1.root c.args.i (omega (arith, r.2, r.3)))

pub part-requires : goal.part-requires
part-requires c =
    let k = part-asks (edition c.args.l) c.args.s.now c.requires.0.linked c.slot-x.result.root
    (rooted (goal.at.part-requires c).After-slot-x) in (k.0, k.1)

pub root_fine-requires : goal.root_fine-requires
root_fine-requires c =
    let n = c.slot-x.result.root in
    let k = rooted (goal.at.root_fine-requires c).After-slot-x in (
      c.part.ensures.1,
      room-here (edition c.args.l) c.args.s.now c.requires.0.linked n k
          c.part.result.now c.part.ensures,
      order-part (edition c.args.l) c.args.s.now c.requires.0 n k c.part.result.now c.part.ensures,
    )

pub returns : goal.returns
returns c =
    let a = c.args in
    let k = c.requires.1.root a.i (omega (arith, c.requires.2, c.requires.3)) in
    c.root_fine.ensures
    ∙ rw (
      c.part.ensures.0,
      c.max.ensures,
      c.slot-x.ensures,
      c.upto_at-b.ensures,
      page-at a.l.least a.s.now (slot_at a.l.least a.s.now a.i).root k.0 k.1,
    )
