-- `place` meets its contract: r is the place among the first i. Assumes nothing.
use Prim.Native.Nat.{◌+◌}
use native.Mathlib.Omega.{arith}
use mathlib.Core.Path.{◌≡◌}
use Rattle.walk.specs.Places.{Place}
use Rattle.walk.proofs.laws.Places.{place-start, place-on, place_end}
use Rattle.walk.proofs.search.place.Goals as goal
use Rattle.walk.proofs.search.place.Goals.{After-under-r}

pub overflow_add-begin : goal.overflow_add-begin
overflow_add-begin c = let s = c.requires.0 in omega (arith, c.fives-begin.ensures.within, s.long, s.short)

pub loop-i-init : goal.loop-i-init
loop-i-init c =
    let f = c.fives-begin.ensures in let e = c.min-end.ensures in
    let a = c.args in (
      omega (arith, f.within, e),
      omega (arith, e),
      place-start a.page.now a.n c.requires.0.order a.k c.fives-begin.result f,
    )

-- the place among one entry more
step : (c : After-under-r)
    →
    let l = c.loop-i in let a = c.args in Place a.page.now a.k (l.i + 1) (l.r + c.under-r.result)
step c =
    let a = c.args in
    let l = c.loop-i in
    place-on a.page.now a.n c.requires.0.order a.k l.i l.r c.under-r.result
    (omega (arith, l.invariant.1, c.loop-i-test.true)) c.under-r.ensures l.invariant.2

pub under-r-requires : goal.under-r-requires
under-r-requires c =
    let p = c.requires in
    let l = c.loop-i in
    (omega (arith, p.0.long, l.invariant.1, c.loop-i-test.true), p.0.short, p.1)

pub overflow_add-r : goal.overflow_add-r
overflow_add-r c =
    let s = c.requires.0 in
    let l = c.loop-i in
    omega (arith, s.long, s.short, l.invariant.1, (step (goal.at.overflow_add-r c).After-under-r).within, c.loop-i-test.true)

pub loop-i-preserved : goal.loop-i-preserved
loop-i-preserved c = (omega arith, c.loop-i.invariant.1, step (goal.at.loop-i-preserved c).After-under-r)

pub returns : goal.returns
returns c =
    let a = c.args in
    let l = c.loop-i in
    let e = c.min-end.ensures in
    let b = c.fives-begin.result in
    let f = c.fives-begin.ensures in
    let t : l.i ≡ c.min-end.result = omega (arith, l.invariant.0, c.loop-i-test.false) in
    place_end a.page.now a.n c.requires.0.order a.k b l.i l.r f (omega (arith, t, e)) (λ h. omega (arith, t, e, h))
    (omega (arith, t, e)) l.invariant.2
