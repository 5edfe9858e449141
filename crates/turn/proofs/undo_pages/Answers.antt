-- `undo_pages` meets its contract. Assumes nothing.
use Rattle.model.proofs.Edition.{edition}
use Prim.Native.Nat.{◌<◌}
use native.Mathlib.Omega.{arith}
use mathlib.Core.Path.{refl, sym, ◌∙◌}
use lib.ListN.{length}
use Rattle.model.specs.Layout.{decode}
use Rattle.turn.proofs.laws.Undone.{undone-start, undone-short, undone-end, undone-part, undone-exact, undone-past}
use Rattle.turn.proofs.laws.Undone.{undone-step}
use Rattle.turn.proofs.undo_pages.Goals as goal

pub loop-n-init : goal.loop-n-init
loop-n-init c =
    let a = c.args in
    let k = c.requires.2 in (
      omega arith,
      omega (arith, k.holds.five, c.requires.3),
      refl,
      undone-start a.l.least (edition c.args.l).four (edition c.args.l).eight (decode a.l.least a.s.now) a.w a.s.now
          (sym k.same) k.holds c.requires.0,
    )

pub undo_page-requires : goal.undo_page-requires
undo_page-requires c =
    let a = c.args in
    let l = c.loop-n in
    let d = edition c.args.l in
    let st = decode a.l.least a.s.now in
    let low : l.n < length st.pages = omega (arith, c.loop-n-test.true, c.requires.3) in (
      c.requires.1,
      undone-part a.l.least d.four d.eight st a.w l.n l.s l.invariant.3 l.invariant.0 low,
      undone-short a.l.least d.four d.eight st a.w l.n l.s l.invariant.3,
      undone-exact a.l.least d.four d.eight st a.w l.n l.s l.invariant.3 l.invariant.0 low,
      undone-past a.l.least d.four d.eight st a.w l.n l.s l.invariant.3 l.invariant.0 low c.requires.4,
    )

pub loop-n-preserved : goal.loop-n-preserved
loop-n-preserved c =
    let a = c.args in
    let l = c.loop-n in
    let d = edition c.args.l in
    let st = decode a.l.least a.s.now in
    let low : l.n < length st.pages = omega (arith, c.loop-n-test.true, c.requires.3) in (
      omega (arith, l.invariant.0),
      omega (arith, c.loop-n-test.true),
      c.undo_page.auto.s ∙ l.invariant.2,
      undone-step a.l.least d.four d.eight st a.w l.n l.s l.invariant.3 l.invariant.0 low c.requires.1 _
          c.undo_page.ensures,
    )

pub shape_of-s : goal.shape_of-s
shape_of-s c = c.loop-n.invariant.2

pub returns : goal.returns
returns c =
    let a = c.args in
    let l = c.loop-n in
    let d = edition c.args.l in
    undone-end a.l.least d.four d.eight (decode a.l.least a.s.now) a.w l.n l.s l.invariant.3
    (omega (arith, c.loop-n-test.false, c.requires.3))
