-- `comings` meets its contract: what is found, and what comes of the keys from k on, is what comes of all. Assumes nothing.
use Prim.Native.Nat.{◌+◌}
use native.Mathlib.Omega.{arith}
use mathlib.Core.Path.{ap, ◌∙◌}
use Rattle.model.specs.Refusals.{found_in}
use Rattle.plain.specs.Items.{from}
use Rattle.plain.proofs.laws.Scan.{differs-told, saying-skip, saying-end}
use Rattle.plain.proofs.Guards.{comes-step, comes-few}
use Rattle.plain.proofs.room.comings.Goals as goal
use Rattle.plain.proofs.room.comings.Invariants.{many}

pub loop-k-init : goal.loop-k-init
loop-k-init c =
    let a = c.args in
    let s = c.next_key-k in
    let es = from a.items.now 0 a.n in (
      s.ensures.within,
      omega arith,
      omega (arith, ap many (differs-told a.w a.v es ∙ saying-skip 0 s.result a.w a.v es s.ensures)),
    )

pub loop-k-preserved : goal.loop-k-preserved
loop-k-preserved c =
    let a = c.args in
    let l = c.loop-k in
    let x = c.value_at-a in
    let y = c.value_at-b in
    let s = c.next_key-k-in-loop-k in
    let es = from a.items.now 0 a.n in
    let one = comes-step l.k a.w a.v es c.loop-k-test.true x.ensures y.ensures in
    let on = ap many (saying-skip (l.k + 1) s.result a.w a.v es s.ensures) in (
      s.ensures.within,
      omega (arith, l.invariant.1, s.ensures.behind, c.coming-found.ensures, comes-few (found_in x.result) (found_in y.result)),
      omega (arith, l.invariant.2, one, on, c.coming-found.ensures),
    )

pub returns : goal.returns
returns c =
    let a = c.args in
    let l = c.loop-k in
    let es = from a.items.now 0 a.n in
    let none_left = ap many (saying-end a.w a.v es l.k c.loop-k-test.false) in
    (omega (arith, l.invariant.2, none_left), omega (arith, l.invariant.0, l.invariant.1))
