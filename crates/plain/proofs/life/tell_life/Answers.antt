-- `tell_life` meets its contract: what is left is the life from version v on. Assumes nothing.
use Prim.Native.Nat.{ℕ}
use native.Mathlib.Omega.{arith}
use mathlib.Core.Option.{Option}
use mathlib.Core.Path.{sym}
use Rattle.model.specs.Refusals.{found_in}
use Rattle.model.proofs.reading.Lives.{rest, rest-start, rest_end}
use Rattle.model.proofs.reading.Telling.{space-front, gather-start, gather-same, gather-step, gather-end}
use Rattle.plain.specs.Plain.{value_at}
use Rattle.plain.specs.Items.{from}
use Rattle.model.specs.Still.{stretches}
use Rattle.plain.specs.Lived.{shown}
use Rattle.plain.proofs.laws.Lived.{rest-told}
use Rattle.plain.proofs.life.tell_life.Goals as goal

pub loop-v-init : goal.loop-v-init
loop-v-init c =
    let a = c.args in
    gather-same stretches (sym (rest-start a.c (λ (w : ℕ). value_at a.key w (from a.items.now 0 a.n)) a.old))
    (gather-start stretches c.requires.2)

pub tell_stretch-found-requires : goal.tell_stretch-found-requires
tell_stretch-found-requires c =
    let a = c.args in
    let l = c.loop-v in
    let f : ℕ → Option ℕ = λ (w : ℕ). value_at a.key w (from a.items.now 0 a.n) in
    let x = c.value_at-a in
    let r = c.change_after-r in
    let e = rest-told a.c f l.v r.result r.ensures x.ensures c.shown_end.ensures in
    space-front stretches (shown l.v c.shown_end.result (found_in x.result)) (rest a.c f r.result)
    (gather-same stretches e l.invariant).space

pub loop-v-preserved : goal.loop-v-preserved
loop-v-preserved c =
    let a = c.args in
    let l = c.loop-v in
    let f : ℕ → Option ℕ = λ (w : ℕ). value_at a.key w (from a.items.now 0 a.n) in
    let x = c.value_at-a in
    let r = c.change_after-r in
    let z = c.shown_end in
    let e = rest-told a.c f l.v r.result r.ensures x.ensures z.ensures in
    gather-step stretches (shown l.v z.result (found_in x.result)) (rest a.c f r.result) (gather-same stretches e l.invariant) _ _
    c.tell_stretch-found.ensures

pub returns : goal.returns
returns c =
    let a = c.args in
    let l = c.loop-v in
    gather-end stretches
    (gather-same stretches
    (rest_end a.c (λ (w : ℕ). value_at a.key w (from a.items.now 0 a.n)) l.v (omega (arith, c.loop-v-test.false))) l.invariant)
