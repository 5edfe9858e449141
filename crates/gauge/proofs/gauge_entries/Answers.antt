use Prim.Native.Nat.{◌+◌, ◌-◌, ◌≤◌}
use mathlib.Core.Path.{◌≡◌, ap, sym, ◌∙◌}
use native.Mathlib.Omega.{arith}
use borrow.Author.Tests.{not-true, not-false}
use lib.ListN.{length}
use Rattle.gauge.specs.Gauge.{weight, entry_sum}
use Rattle.gauge.proofs.laws.Gauge.{GaugeFit, told, entries_none, entries-more, entries-small}
use borrow.Author.Rules.{rules}
use Rattle.gauge.proofs.gauge_entries.Goals as goal
use Rattle.gauge.proofs.gauge_entries.Goals.{After-struct_known-in-loop-i-3-1}

pub returns-then-not-fits : goal.returns-then-not-fits
returns-then-not-fits c = let e = sym c.fits.ensures ∙ not-true _ c.if-not-fits.true-raw in rw e

pub loop-i-init : goal.loop-i-init
loop-i-init c =
    let a = c.args in (
      told (length a.page.now) 128 0 a.n (sym c.fits.ensures ∙ not-false _ c.if-not-fits.false-raw),
      omega arith,
      entries_none a.page.now,
    )

pub entry_at-e-requires : goal.entry_at-e-requires
entry_at-e-requires c = let f = c.loop-i.invariant.0 in (omega (arith, f.held), omega (arith, f.bytes))

step : (c : After-struct_known-in-loop-i-3-1) →
    let l = c.loop-i in let a = c.args in
    l.r + weight c.entry_at-e.result ≡ entry_sum a.page.now (l.i + 1)
step c =
    let l = c.loop-i in let a = c.args in
    rw (c.entry_at-e.ensures, l.invariant.2) (entries-more a.page.now l.i)

pub overflow_add-r-in-loop-i-3 : goal.overflow_add-r-in-loop-i-3
overflow_add-r-in-loop-i-3 c = let l = c.loop-i in let a = c.args in omega (arith, step (goal.at.overflow_add-r-in-loop-i-3 c).After-struct_known-in-loop-i-3-1, entries-small a.page.now (l.i + 1), l.invariant.0.many)

pub loop-i-preserved : goal.loop-i-preserved
loop-i-preserved c = (c.loop-i.invariant.0, omega arith, step (goal.at.loop-i-preserved c).After-struct_known-in-loop-i-3-1)

pub returns : goal.returns
returns c =
    let l = c.loop-i in let a = c.args in
    let e : l.i ≡ a.n = omega arith in
    let t = sym c.fits.ensures ∙ not-false _ c.if-not-fits.false-raw in
    rw t (l.invariant.2 ∙ ap (entry_sum a.page.now) e)
