use Prim.Native.Nat.{◌+◌, ◌-◌, ◌≤◌}
use mathlib.Core.Path.{◌≡◌, ap, sym, ◌∙◌}
use native.Mathlib.Omega.{arith}
use borrow.Author.Tests.{not-true, not-false}
use lib.ListN.{length}
use Rattle.gauge.specs.Gauge.{field_sum}
use Rattle.gauge.proofs.laws.Gauge.{GaugeFit, told, fields-none, fields-more, fields-small}
use borrow.Author.Rules.{rules}
use Rattle.gauge.proofs.gauge_fields.Goals as goal
use Rattle.gauge.proofs.gauge_fields.Goals.{After-field}

pub returns-then-not-fits : goal.returns-then-not-fits
returns-then-not-fits c = let e = sym c.fits.ensures ∙ not-true _ c.if-not-fits.true-raw in rw e

pub loop-i-init : goal.loop-i-init
loop-i-init c =
    let a = c.args in (
      told (length a.s.now) a.at a.width a.n (sym c.fits.ensures ∙ not-false _ c.if-not-fits.false-raw),
      omega arith,
      fields-none a.s.now a.at a.width,
    )

pub overflow_mul-i : goal.overflow_mul-i
overflow_mul-i c = omega (arith, c.loop-i.invariant.0.many)

pub overflow_add-at : goal.overflow_add-at
overflow_add-at c = let f = c.loop-i.invariant.0 in omega (arith, f.many, f.place)

pub field-requires : goal.field-requires
field-requires c = let f = c.loop-i.invariant.0 in (omega (arith, f.held, f.wide), f.wide, omega (arith, f.bytes))

step : (c : After-field) →
    let l = c.loop-i in let a = c.args in
    l.r + c.field.result ≡ field_sum a.s.now a.at a.width (l.i + 1)
step c =
    let l = c.loop-i in let a = c.args in
    rw (c.field.ensures, l.invariant.2) (fields-more a.s.now a.at a.width l.i)

pub overflow_add-r : goal.overflow_add-r
overflow_add-r c =
    let l = c.loop-i in let a = c.args in
    omega (arith, step (goal.at.overflow_add-r c).After-field, fields-small a.s.now a.at a.width (l.i + 1) l.invariant.0.wide, l.invariant.0.many)

pub loop-i-preserved : goal.loop-i-preserved
loop-i-preserved c = (c.loop-i.invariant.0, omega arith, step (goal.at.loop-i-preserved c).After-field)

pub returns : goal.returns
returns c =
    let l = c.loop-i in let a = c.args in
    let e : l.i ≡ a.n = omega arith in
    let t = sym c.fits.ensures ∙ not-false _ c.if-not-fits.false-raw in
    rw t (l.invariant.2 ∙ ap (field_sum a.s.now a.at a.width) e)
