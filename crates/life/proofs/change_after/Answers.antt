-- `change_after` meets its contract: up to u the answer has not changed. Assumes nothing.
use native.Mathlib.Omega.{arith}
use mathlib.Core.Path.{sym, ◌∙◌}
use Rattle.model.specs.Walk.{lookup}
use Rattle.model.specs.Layout.{decode}
use Rattle.model.proofs.reading.Lives.{lasts_on, lasts-other, lasts-end}
use Rattle.life.proofs.laws.Lived.{same_true, same_false, reads_at, low}
use Rattle.life.proofs.change_after.Goals as goal

pub overflow_add-c : goal.overflow_add-c
overflow_add-c c = omega (arith, low c.requires.0)

pub answer_until-u-requires : goal.answer_until-u-requires
answer_until-u-requires c = let p = c.requires in (reads_at p.0 c.args.v p.2 p.3, p.1, omega (arith, p.3))

pub loop-u-init : goal.loop-u-init
loop-u-init c = let u = c.answer_until-u.ensures in record { above = u.above; below = omega (arith, u.below); same = u.still }

pub lookup-requires : goal.lookup-requires
lookup-requires c =
    let p = c.requires in
    (reads_at p.0 c.loop-u.u (omega (arith, p.2, c.loop-u.invariant.above)) c.loop-u-test.true, p.1)

pub overflow_add-c-in-loop-u : goal.overflow_add-c-in-loop-u
overflow_add-c-in-loop-u c = omega (arith, low c.requires.0)

pub answer_until-u-requires-in-loop-u : goal.answer_until-u-requires-in-loop-u
answer_until-u-requires-in-loop-u c =
    let p = c.requires in
    let k = c.loop-u in (
      reads_at p.0 k.u (omega (arith, p.2, k.invariant.above)) c.loop-u-test.true,
      p.1,
      omega (arith, c.loop-u-test.true),
    )

pub loop-u-smaller : goal.loop-u-smaller
loop-u-smaller c = omega (arith, c.answer_until-u-in-loop-u.ensures.above, c.loop-u-test.true)

pub loop-u-preserved : goal.loop-u-preserved
loop-u-preserved c =
    let a = c.args in
    let k = c.loop-u in
    let f = lookup (decode a.l.least a.s.now) a.key in
    let u = c.answer_until-u-in-loop-u.ensures in
    let e = same_true c.lookup.result a.was (sym c.eq.ensures ∙ c.if-eq.true) in
    lasts_on a.c f a.v k.u c.answer_until-u-in-loop-u.result k.invariant
    (sym c.lookup.ensures ∙ e ∙ c.requires.4)
    u.above (omega (arith, u.below)) u.still

pub returns-else-eq : goal.returns-else-eq
returns-else-eq c =
    let a = c.args in
    let k = c.loop-u in
    let f = lookup (decode a.l.least a.s.now) a.key in
    lasts-other a.c f a.v k.u k.invariant
    (λ e. same_false c.lookup.result a.was (sym c.eq.ensures ∙ c.if-eq.false) (c.lookup.ensures ∙ e ∙ sym c.requires.4))

pub returns-after-loop-u : goal.returns-after-loop-u
returns-after-loop-u c =
    let a = c.args in
    let k = c.loop-u in
    lasts-end a.c (lookup (decode a.l.least a.s.now) a.key) a.v k.u k.invariant (omega (arith, c.loop-u-test.false))
