-- `prune_pages` meets its contract. Assumes nothing.
use Rattle.model.proofs.Edition.{edition}
use Prim.Native.Nat.{◌<◌}
use native.Mathlib.Omega.{arith}
use mathlib.Core.Path.{refl, sym, ◌∙◌}
use lib.ListN.{length}
use Rattle.model.specs.Layout.{decode}
use Rattle.model.specs.Calls.{pruned_page}
use Rattle.turn.proofs.laws.Rewritten.{rewritten-start, rewritten-short, rewritten-end, rewritten-part, rewritten-exact}
use Rattle.turn.proofs.laws.Rewritten.{rewritten-step}
use Rattle.prune.proofs.laws.Pages.{free-pruned, valid-pruned}
use Rattle.prune.proofs.prune_pages.Goals as goal

pub loop-n-init : goal.loop-n-init
loop-n-init c =
    let a = c.args in
    let k = c.requires.0 in (
      omega arith,
      omega (arith, k.holds.five, c.requires.1),
      refl,
      rewritten-start a.l.least (edition c.args.l).four (edition c.args.l).eight (pruned_page a.v)
          (decode a.l.least a.s.now) (free-pruned a.v) a.s.now (sym k.same) k.holds,
    )

pub prune_page-requires : goal.prune_page-requires
prune_page-requires c =
    let a = c.args in
    let l = c.loop-n in
    let d = edition c.args.l in
    let st = decode a.l.least a.s.now in
    let low : l.n < length st.pages = omega (arith, c.loop-n-test.true, c.requires.1) in (
      rewritten-part a.l.least d.four d.eight (pruned_page a.v) st l.n l.s l.invariant.3 l.invariant.0 low,
      rewritten-short a.l.least d.four d.eight (pruned_page a.v) st l.n l.s l.invariant.3,
      rewritten-exact a.l.least d.four d.eight (pruned_page a.v) st l.n l.s l.invariant.3 l.invariant.0 low,
    )

pub loop-n-preserved : goal.loop-n-preserved
loop-n-preserved c =
    let a = c.args in
    let l = c.loop-n in
    let d = edition c.args.l in
    let st = decode a.l.least a.s.now in
    let low : l.n < length st.pages = omega (arith, c.loop-n-test.true, c.requires.1) in (
      omega (arith, l.invariant.0),
      omega (arith, c.loop-n-test.true),
      c.prune_page.auto.s ∙ l.invariant.2,
      rewritten-step a.l.least d.four d.eight (pruned_page a.v) st l.n l.s l.invariant.3 l.invariant.0 low
          (valid-pruned a.l.least a.v) _ c.prune_page.ensures,
    )

pub shape_of-s : goal.shape_of-s
shape_of-s c = c.loop-n.invariant.2

pub returns : goal.returns
returns c =
    let a = c.args in
    let l = c.loop-n in
    let d = edition c.args.l in
    rewritten-end a.l.least d.four d.eight (pruned_page a.v) (decode a.l.least a.s.now) l.n l.s l.invariant.3
    (omega (arith, c.loop-n-test.false, c.requires.1))
