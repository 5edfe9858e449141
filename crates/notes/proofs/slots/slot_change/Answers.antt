-- `notes::slots::slot_change` meets its contract: no slot before i has its version behind v and before q. Assumes nothing.
use Prim.Native.Nat.{ℕ}
use native.Mathlib.Omega.{arith}
use Rattle.notes.proofs.laws.Ready.{outs-more}
use Rattle.local.specs.Local.{slot_at}
use Rattle.notes.proofs.slots.slot_change.Goals as goal

pub loop-i-init : goal.loop-i-init
loop-i-init c = (record { below = omega arith; above = c.requires.1 }, λ k l. absurd (omega arith))

pub loop-i-preserved : goal.loop-i-preserved
loop-i-preserved c =
    let a = c.args in let k = c.loop-i in let x = c.sooner-q.ensures in (
      record { below = omega (arith, x.0.below, k.invariant.0.below); above = x.0.above },
      outs-more (λ (i : ℕ). (slot_at a.l.least a.s.now i).version) k.i a.v k.q c.sooner-q.result k.invariant.1 x.0.below
          (rw c.slot.ensures at x.1),
    )

pub returns : goal.returns
returns c = let k = c.loop-i in (k.invariant.0, λ i l. k.invariant.1 i (omega (arith, c.loop-i-test.false)))
