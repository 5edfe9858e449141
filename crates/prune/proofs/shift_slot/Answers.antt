-- `shift_slot` meets its contract. Assumes nothing.
use Rattle.model.proofs.Edition.{edition}
use native.Mathlib.Omega.{arith}
use mathlib.Core.Path.{sym, subst, ◌∙◌}
use Rattle.store.specs.Slots.{SlotFits}
use Rattle.prune.proofs.laws.Whole.{kept-front, kept-short, few-slots, slot-put, slot-fits}
use Rattle.prune.proofs.shift_slot.Goals as goal

pub overflow_add-i : goal.overflow_add-i
overflow_add-i c =
    let p = c.requires in
    omega (arith, p.1, p.2, p.3, few-slots (edition c.args.l) c.args.s.now p.0, (edition c.args.l).eight)

pub put_slot-requires : goal.put_slot-requires
put_slot-requires c =
    let a = c.args in
    let p = c.requires in (
      subst SlotFits (sym c.slot_at-x.ensures) (slot-fits (edition c.args.l) a.s.now p.0 _),
      kept-front (edition c.args.l) a.s.now p.0,
      omega (arith, few-slots (edition c.args.l) a.s.now p.0, p.1, p.3),
      kept-short (edition c.args.l) a.s.now p.0,
    )

pub returns : goal.returns
returns c =
    let a = c.args in
    let p = c.requires in
    rw c.slot_at-x.ensures at c.put_slot.ensures
    ∙ slot-put (edition c.args.l) a.s.now p.0 a.i _ (omega (arith, p.1, p.3)) (slot-fits (edition c.args.l) a.s.now p.0 _)
