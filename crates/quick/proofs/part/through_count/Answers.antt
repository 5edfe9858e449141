use Prim.Native.Nat.{suc}
use native.Mathlib.Omega.{arith}
use Rattle.model.specs.Inner.{throughout}
use Rattle.quick.proofs.laws.Part.{count-step, count-end}
use Rattle.quick.proofs.part.through_count.Goals as goal
use Rattle.quick.proofs.part.through_count.Goals.{then-throughout, else-throughout}

pub loop-i-preserved : goal.loop-i-preserved
loop-i-preserved c =
    let a = c.args in let j = c.loop-i in
    let e = rw (← c.entry_at.ensures, ← c.throughout.ensures) at (count-step a.page.now j.i a.n (throughout a.a (suc a.z)) c.loop-i-test.true) in
    elim c.if-throughout.branch [
      | then-throughout w ↦ (
        omega (arith, j.invariant.0, w.c-is),
        omega (arith, c.if-m-c.false, w.c-is),
        omega (arith, j.invariant.2, w.c-is, rw w.if-throughout.true at e),
      )
      | else-throughout w ↦ (
        omega (arith, j.invariant.0, w.c-is),
        omega (arith, j.invariant.1, w.c-is),
        omega (arith, j.invariant.2, w.c-is, rw w.if-throughout.false at e),
      )
    ]

pub returns : goal.returns
returns c =
    let a = c.args in let j = c.loop-i in
    omega (arith, j.invariant.1, j.invariant.2, count-end a.page.now j.i a.n (throughout a.a (suc a.z)) c.loop-i-test.false)
