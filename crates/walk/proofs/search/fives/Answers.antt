-- `fives` meets its contract. Assumes nothing.
use Prim.Native.Nat.{◌+◌, ◌<◌}
use native.Mathlib.Omega.{arith}
use Rattle.walk.proofs.laws.Places.{fives-on, fives-stop}
use Rattle.walk.proofs.search.fives.Goals as goal

pub loop-i-init : goal.loop-i-init
loop-i-init c = (omega arith, λ j h. absurd (omega arith))

pub overflow_add-i : goal.overflow_add-i
overflow_add-i c = omega (arith, c.requires.0.long, c.requires.0.short)

pub under-requires : goal.under-requires
under-requires c =
    let s = c.requires.0 in
    (omega (arith, s.long, c.loop-i-test.true), s.short, c.requires.1)

pub returns-then-under-eq0 : goal.returns-then-under-eq0
returns-then-under-eq0 c =
    let a = c.args in
    let l = c.loop-i in
    record {
      within = l.invariant.0;
      below = l.invariant.1;
      next = λ h. fives-stop a.page.now a.n c.requires.0.order a.k l.i c.under.result
          c.under.ensures c.if-under-eq0.true;
    }

pub loop-i-preserved : goal.loop-i-preserved
loop-i-preserved c =
    let a = c.args in
    let l = c.loop-i in
    let t : l.i + 4 < a.n = c.loop-i-test.true in (
      omega arith,
      fives-on a.page.now a.n c.requires.0.order a.k l.i c.under.result
          c.under.ensures c.if-under-eq0.false t l.invariant.1,
    )

pub returns : goal.returns
returns c = let l = c.loop-i in record { within = l.invariant.0; below = l.invariant.1; next = λ h. absurd (omega (arith, c.loop-i-test.false)) }
