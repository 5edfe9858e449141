-- `slot_at` meets its contract. Assumes nothing.
use Rattle.model.proofs.Edition.{edition}
use native.Mathlib.Omega.{arith}
use mathlib.Core.Path.{sym, ◌∙◌}
use lib.ListN.{get_or-eq_default}
use Rattle.model.specs.Layout.{no_slot, decode}
use Rattle.prune.proofs.laws.Whole.{kept-front, kept-short, few-slots, slot_is}
use Rattle.prune.proofs.slot_at.Goals as goal

pub slot-requires : goal.slot-requires
slot-requires c =
    let a = c.args in
    let p = c.requires in (
      kept-front (edition c.args.l) a.s.now p.0,
      omega (arith, few-slots (edition c.args.l) a.s.now p.0, p.1, c.if-j-roots.true),
      kept-short (edition c.args.l) a.s.now p.0,
    )

pub returns-then-j-roots : goal.returns-then-j-roots
returns-then-j-roots c =
    let a = c.args in
    let p = c.requires in
    c.slot.ensures
    ∙ slot_is (edition c.args.l) a.s.now p.0 a.j (omega (arith, p.1, c.if-j-roots.true))

pub returns-else-j-roots : goal.returns-else-j-roots
returns-else-j-roots c =
    let a = c.args in
    sym (get_or-eq_default (decode a.l.least a.s.now).slots no_slot (omega (arith, c.requires.1, c.if-j-roots.false)))
