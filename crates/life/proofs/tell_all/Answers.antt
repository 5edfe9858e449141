-- `tell_all` meets its contract: what is left is the life from version v on. Assumes nothing.
use native.Mathlib.Omega.{arith}
use mathlib.Core.Path.{sym}
use Rattle.model.specs.Walk.{lookup}
use Rattle.model.specs.Layout.{decode}
use Rattle.model.proofs.reading.Lives.{rest, rest-start, rest_end}
use Rattle.model.proofs.reading.Telling.{space-front, gather-start, gather-same, gather-step, gather-end}
use Rattle.model.specs.Still.{stretches}
use Rattle.life.specs.Lived.{shown}
use Rattle.model.specs.Refusals.{found_in}
use Rattle.life.proofs.laws.Lived.{reads_at, rest-told}
use Rattle.life.proofs.tell_all.Goals as goal

pub loop-v-init : goal.loop-v-init
loop-v-init c =
    let a = c.args in (
      omega (arith, c.requires.4),
      omega arith,
      gather-same stretches (sym (rest-start a.c (lookup (decode a.l.least a.s.now) a.key) a.old))
          (gather-start stretches c.requires.2),
    )

pub lookup-answer-requires : goal.lookup-answer-requires
lookup-answer-requires c =
    let p = c.requires in
    (reads_at p.0 c.loop-v.v (omega (arith, p.3, c.loop-v.invariant.1)) c.loop-v-test.true, p.1)

pub change_after-r-requires : goal.change_after-r-requires
change_after-r-requires c =
    let p = c.requires in
    (p.0, p.1, omega (arith, p.3, c.loop-v.invariant.1), c.loop-v-test.true, c.lookup-answer.ensures)

pub tell-found-requires : goal.tell-found-requires
tell-found-requires c =
    let a = c.args in
    let k = c.loop-v in
    let f = lookup (decode a.l.least a.s.now) a.key in
    let r = c.change_after-r in
    let e = rest-told a.c f k.v r.result c.shown_end.result (found_in c.lookup-answer.result) r.ensures
    c.lookup-answer.ensures c.shown_end.ensures in
    space-front stretches (shown k.v c.shown_end.result (found_in c.lookup-answer.result)) (rest a.c f r.result)
    (gather-same stretches e k.invariant.2).space

pub loop-v-smaller : goal.loop-v-smaller
loop-v-smaller c = omega (arith, c.change_after-r.ensures.above, c.loop-v-test.true)

pub loop-v-preserved : goal.loop-v-preserved
loop-v-preserved c =
    let a = c.args in
    let k = c.loop-v in
    let f = lookup (decode a.l.least a.s.now) a.key in
    let r = c.change_after-r in
    let x = c.lookup-answer in
    let z = c.shown_end in
    let e = rest-told a.c f k.v r.result z.result (found_in x.result) r.ensures x.ensures z.ensures in (
      r.ensures.below,
      omega (arith, k.invariant.1, r.ensures.above),
      gather-step stretches (shown k.v z.result (found_in x.result)) (rest a.c f r.result) (gather-same stretches e k.invariant.2) _ _
          c.tell-found.ensures,
    )

pub returns : goal.returns
returns c =
    let a = c.args in
    let k = c.loop-v in
    gather-end stretches
    (gather-same stretches (rest_end a.c (lookup (decode a.l.least a.s.now) a.key) k.v (omega (arith, c.loop-v-test.false)))
    k.invariant.2)
