use Rattle.model.proofs.Edition.{edition}
use Rattle.page.specs.Head.{read_head}
use Rattle.quick.specs.Sums.{add_page, add_pages}
use Rattle.quick.proofs.laws.Sums.{add-pages-step, add-pages-end, page-more, fewer}
use Rattle.store.proofs.laws.Read.{behind}
use Rattle.model.specs.Layout.{page_of, decode_page}
use Prim.Native.Nat.{◌≤◌}
use mathlib.Core.Path.{ap, sym, ◌∙◌}
use native.Mathlib.Omega.{arith}
use Rattle.quick.proofs.sums.add_pages.Goals as goal

pub loop-n-init : goal.loop-n-init
loop-n-init c = (
  c.size-size.ensures,
  fewer c.args.sums.now c.requires.1 (omega arith),
  ap (add_pages c.args.old c.args.sums.now) (behind c.args.l.least c.args.s.now)
      ∙ rw c.size-size.ensures,
)

pub loop-n-preserved : goal.loop-n-preserved
loop-n-preserved c =
    let a = c.args in let k = c.loop-n in
    let p = page_of a.l.least a.s.now k.n in
    let f : (read_head a.l.least p).count ≤ 40
    = omega (
      arith,
      c.requires.0.linked.room k.n (c.loop-n.auto.n, omega (arith, c.loop-n-test.true, k.invariant.0)),
      (edition c.args.l).eight,
    ) in (
      k.invariant.0,
      rw c.add_page.ensures
          (fewer (add_page a.old k.sums (decode_page a.l.least p)) (page-more a.old k.sums a.l.least p f k.invariant.1)
          (omega arith)),
      k.invariant.2 ∙ add-pages-step a.old k.sums a.l.least a.s.now k.n c.size-size.result c.loop-n-test.true
          ∙ rw c.add_page.ensures,
    )

pub shape_of-sums : goal.shape_of-sums
shape_of-sums c = c.loop-n.invariant.1.all ∙ sym c.requires.1.all

pub returns : goal.returns
returns c =
    sym (c.loop-n.invariant.2 ∙ add-pages-end c.args.old c.loop-n.sums c.args.l.least
    c.args.s.now c.loop-n.n c.size-size.result c.loop-n-test.false)
