use Rattle.quick.specs.Sums.{all_met}
use Rattle.quick.proofs.laws.Sums.{met-step, met-end}
use Rattle.store.proofs.laws.Read.{behind}
use mathlib.Core.Path.{ap, sym, ◌∙◌}
use Rattle.quick.proofs.sums.all_met.Goals as goal

pub loop-n-init : goal.loop-n-init
loop-n-init c = (
  c.size-size.ensures,
  ap (all_met c.args.old c.args.sums.now 5)
      (behind c.args.l.least c.args.s.now) ∙ rw c.size-size.ensures,
)

pub returns-then-not-page_met : goal.returns-then-not-page_met
returns-then-not-page_met c =
    let a = c.args in let k = c.loop-n in
    sym (k.invariant.1 ∙ met-step a.old a.sums.now a.l.least a.s.now k.n c.size-size.result
    c.loop-n-test.true
    ∙ rw (← c.page_met.ensures, c.if-not-page_met.true))

pub loop-n-preserved : goal.loop-n-preserved
loop-n-preserved c =
    let a = c.args in let k = c.loop-n in (
      k.invariant.0,
      k.invariant.1 ∙ met-step a.old a.sums.now a.l.least a.s.now k.n c.size-size.result
          c.loop-n-test.true
          ∙ rw (← c.page_met.ensures, c.if-not-page_met.false),
    )

pub returns : goal.returns
returns c =
    let a = c.args in let k = c.loop-n in
    sym (k.invariant.1 ∙ met-end a.old a.sums.now a.l.least a.s.now k.n c.size-size.result
    c.loop-n-test.false)
