-- `slots_change` meets its contract: no slot before i has its version behind v and before q. Assumes nothing.
use Rattle.model.proofs.Edition.{edition}
use Prim.Native.Nat.{ℕ}
use native.Mathlib.Omega.{arith}
use mathlib.Core.Path.{ap}
use Rattle.model.specs.declared.Header.{Header}
use Rattle.store.proofs.laws.Sure.{front, few, roots}
use Rattle.local.specs.Local.{slot_at}
use Rattle.notes.proofs.laws.Ready.{outs-more}
use Rattle.convert.proofs.skip.slots_change.Goals as goal

pub loop-i-init : goal.loop-i-init
loop-i-init c = (record { below = omega arith; above = c.requires.2 }, λ j l. absurd (omega arith))

pub slot-requires : goal.slot-requires
slot-requires c =
    let a = c.args in
    let p = c.requires in
    let n = ap (λ (h : Header). h.roots) p.1 in (
      omega (arith, front (edition c.args.k) a.s.now p.0),
      omega (arith, c.loop-i-test.true, n, roots (edition c.args.k) a.s.now p.0),
      few (edition c.args.k) a.s.now p.0,
    )

pub sooner-q-requires : goal.sooner-q-requires
sooner-q-requires c = c.loop-i.invariant.0.above

pub loop-i-preserved : goal.loop-i-preserved
loop-i-preserved c =
    let a = c.args in let i = c.loop-i in let x = c.sooner-q.ensures in (
      record { below = omega (arith, x.0.below, i.invariant.0.below); above = x.0.above },
      outs-more (λ (j : ℕ). (slot_at a.k.least a.s.now j).version) i.i a.v i.q c.sooner-q.result i.invariant.1 x.0.below
          (rw c.slot.ensures at x.1),
    )

pub returns : goal.returns
returns c = let i = c.loop-i in (i.invariant.0, λ j l. i.invariant.1 j (omega (arith, c.loop-i-test.false)))
