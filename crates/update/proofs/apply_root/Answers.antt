use Rattle.parts.proofs.laws.Becomes.{kept-after}
use Rattle.root.proofs.laws.Slotted.{slotted-after}
use Rattle.root.specs.Root.{rooted_of}
use Rattle.update.proofs.laws.Applied.{bytes-stay, done-lacks, done-slot, done-inside, done-moves}
use Rattle.update.proofs.apply_root.Goals as goal

pub work_root-requires : goal.work_root-requires
work_root-requires c =
    let p = c.requires in
    (p.kept, p.root, p.fits, p.low, p.size_is, p.level)

pub take_slot-requires : goal.take_slot-requires
unfolding rooted_of
take_slot-requires c =
    let p = c.requires in
    let r = rw c.in-Ok-Some.field-0-is at c.in-Ok-Some.ensures in
    rw c.in-Ok-Some.m-is (
      kept-after p.kept r.1,
      done-inside p.kept r.1 _ p.planned _ r.0,
      slotted-after p.kept r.1 p.slots,
      done-slot p.kept r.1 _ p.planned _ r.0,
    )

pub returns-in-Ok-Some : goal.returns-in-Ok-Some
unfolding rooted_of
returns-in-Ok-Some c =
    let p = c.requires in
    let r = rw c.in-Ok-Some.field-0-is at c.in-Ok-Some.ensures in
    done-moves p.kept r.1 _ p.planned _ r.0 _ (rw c.in-Ok-Some.m-is at c.take_slot.ensures)

pub returns-in-Ok-None : goal.returns-in-Ok-None
unfolding rooted_of
returns-in-Ok-None c =
    let p = c.requires in
    let r = rw c.in-Ok-None.field-0-is at c.in-Ok-None.ensures in
    bytes-stay p.kept r.1 _ r.0

pub returns-in-Err : goal.returns-in-Err
unfolding rooted_of
returns-in-Err c =
    let p = c.requires in
    let r = c.in-Err.ensures in
    absurd (done-lacks p.kept r.1 _ p.planned r.0)
