-- `shift_slots` meets its contract. Assumes nothing.
use Rattle.model.proofs.Edition.{edition}
use Prim.Native.Nat.{◌≤◌}
use native.Mathlib.Omega.{arith}
use mathlib.Core.Path.{refl, sym, ◌∙◌}
use lib.ListN.{length}
use Rattle.model.specs.Layout.{decode}
use Rattle.prune.proofs.laws.Whole.{shifted_start, shifted-kept, shifted-roots, shifted_step, shifted_end}
use Rattle.prune.proofs.shift_slots.Goals as goal

pub loop-i-init : goal.loop-i-init
loop-i-init c =
    let a = c.args in
    let p = c.requires in (
      omega arith,
      refl,
      shifted_start a.l.least (edition c.args.l).four (edition c.args.l).eight (decode a.l.least a.s.now) a.k
          (omega (arith, p.1, p.2)) a.s.now (sym p.0.same) p.0.holds,
    )

pub shift_slot-requires : goal.shift_slot-requires
shift_slot-requires c =
    let a = c.args in
    let p = c.requires in
    let l = c.loop-i in
    let st = decode a.l.least a.s.now in
    let low : a.k ≤ length st.slots = omega (arith, p.1, p.2) in (
      shifted-kept a.l.least (edition c.args.l).four (edition c.args.l).eight st a.k low l.i l.s l.invariant.2,
      p.1 ∙ sym (shifted-roots a.l.least (edition c.args.l).four (edition c.args.l).eight st a.k low l.i l.s l.invariant.2),
      p.2,
      c.loop-i-test.true,
    )

pub loop-i-preserved : goal.loop-i-preserved
loop-i-preserved c =
    let a = c.args in
    let p = c.requires in
    let l = c.loop-i in
    let st = decode a.l.least a.s.now in
    let low : a.k ≤ length st.slots = omega (arith, p.1, p.2) in (
      omega (arith, c.loop-i-test.true),
      c.shift_slot.auto.s ∙ l.invariant.1,
      shifted_step a.l.least (edition c.args.l).four (edition c.args.l).eight st a.k low l.i l.s l.invariant.2
          (omega (arith, c.loop-i-test.true, p.1)) _ c.shift_slot.ensures,
    )

pub shape_of-s : goal.shape_of-s
shape_of-s c = c.loop-i.invariant.1

pub returns : goal.returns
returns c =
    let a = c.args in
    let p = c.requires in
    let l = c.loop-i in
    shifted_end a.l.least (edition c.args.l).four (edition c.args.l).eight (decode a.l.least a.s.now) a.k (omega (arith, p.1, p.2)) l.i l.s
    l.invariant.2 (omega (arith, c.loop-i-test.false, p.1))
