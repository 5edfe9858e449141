use Prim.Native.Nat.{◌≤◌, ◌<◌}
use mathlib.Core.Path.{refl, ap, sym, ◌∙◌}
use mathlib.Core.Bool.{Bool, ◌&&◌}
use native.Mathlib.Omega.{arith}
use Rattle.model.specs.Layout.{decode}
use Rattle.notes.proofs.laws.Kept.{kept-later}
use Rattle.notes.proofs.laws.Pass.{until-later}
use Rattle.notes.proofs.laws.Over.{over-broken, over-whole, keys-next, full-next}
use Rattle.notes.proofs.pass.stretch.Goals as goal

pub loop-v-init : goal.loop-v-init
loop-v-init c = let a = c.args in let r = c.requires in (omega arith, r.3, r.5, refl, refl)

pub shape_of-notes-then-not-keys_by : goal.shape_of-notes-then-not-keys_by
shape_of-notes-then-not-keys_by c = c.visit-x.ensures.1.long ∙ sym c.requires.5.long

pub returns-then-not-keys_by : goal.returns-then-not-keys_by
returns-then-not-keys_by c =
    let a = c.args in let r = c.requires in (
      over-broken a.l.least a.up (decode a.l.least a.s.now).pages a.root a.a c.loop-v.v a.c
          c.visit-x.result c.visit-x.ensures.0 c.loop-v-test.true c.loop-v.invariant.3
          (sym c.keys_by.ensures ∙ c.if-not-keys_by.true),
      kept-later a.l.least (decode a.l.least a.s.now).pages c.loop-v.v a.c _ c.loop-v.invariant.1
          c.visit-x.ensures.1,
    )

pub loop-v-smaller : goal.loop-v-smaller
loop-v-smaller c =
    let a = c.args in let r = c.requires in
    let k = until-later a.l.least a.up (decode a.l.least a.s.now).pages a.root c.loop-v.v
    c.visit-x.result c.visit-x.ensures.0 (omega (arith, c.loop-v-test.true, r.4))
    (sym c.keys_by.ensures ∙ c.if-not-keys_by.false) in
    omega (arith, k, c.min-v.ensures, c.loop-v-test.true)

pub loop-v-preserved : goal.loop-v-preserved
loop-v-preserved c =
    let a = c.args in let r = c.requires in
    let k = until-later a.l.least a.up (decode a.l.least a.s.now).pages a.root c.loop-v.v
    c.visit-x.result c.visit-x.ensures.0 (omega (arith, c.loop-v-test.true, r.4))
    (sym c.keys_by.ensures ∙ c.if-not-keys_by.false) in
    let low : c.loop-v.v < c.min-v.result = omega (arith, k, c.min-v.ensures, c.loop-v-test.true) in
    let high : c.min-v.result ≤ a.c = omega (arith, c.min-v.ensures) in
    let holds : c.min-v.result ≤ c.visit-x.result.until = omega (arith, c.min-v.ensures) in (
      omega (arith, c.loop-v.invariant.0),
      high,
      kept-later a.l.least (decode a.l.least a.s.now).pages c.loop-v.v c.min-v.result _ (omega arith)
          c.visit-x.ensures.1,
      keys-next a.l.least a.up (decode a.l.least a.s.now).pages a.root c.loop-v.v c.min-v.result a.c
          c.visit-x.result c.visit-x.ensures.0 low high holds _ c.loop-v.invariant.3
          (sym c.keys_by.ensures ∙ c.if-not-keys_by.false),
      full-next a.l.least a.up (decode a.l.least a.s.now).pages a.root c.loop-v.v c.min-v.result a.c
          c.visit-x.result c.visit-x.ensures.0 low high holds _ c.loop-v.full _
          c.loop-v.invariant.4
          (ap (λ (b : Bool). c.loop-v.full && b) c.full_by-full.ensures),
    )

pub shape_of-notes : goal.shape_of-notes
shape_of-notes c = c.loop-v.invariant.2.long ∙ sym c.requires.5.long

pub returns : goal.returns
returns c =
    let a = c.args in let r = c.requires in (
      over-whole a.l.least a.up (decode a.l.least a.s.now).pages a.root a.a c.loop-v.v a.c
          c.loop-v.full c.loop-v-test.false c.loop-v.invariant.3 c.loop-v.invariant.4,
      kept-later a.l.least (decode a.l.least a.s.now).pages c.loop-v.v a.c _ c.loop-v.invariant.1
          c.loop-v.invariant.2,
    )
