-- `first_needed` meets its contract. Assumes nothing.
use Rattle.model.proofs.Edition.{edition}
use Prim.Native.Nat.{◌+◌, ◌-◌, ◌<◌}
use native.Mathlib.Omega.{arith}
use mathlib.Core.Path.{◌≡◌, ap, ◌∙◌}
use lib.ListN.{length}
use Rattle.model.specs.declared.Slot.{Slot}
use Rattle.model.specs.Layout.{decode}
use Rattle.prune.proofs.laws.Needed.{past-start, past_more, past-stops, past_end}
use Rattle.prune.proofs.laws.Whole.{kept-front, kept-short, few-slots, slot_is}
use Rattle.prune.proofs.first_needed.Goals as goal

pub loop-k-init : goal.loop-k-init
loop-k-init c =
    let a = c.args in
    past-start a.v (decode a.l.least a.s.now).slots (omega (arith, c.requires.1, c.requires.2))

pub slot-x-requires : goal.slot-x-requires
slot-x-requires c =
    let a = c.args in
    let p = c.requires in (
      kept-front (edition c.args.l) a.s.now p.0,
      omega (arith, few-slots (edition c.args.l) a.s.now p.0, p.1, c.loop-k-test.true),
      kept-short (edition c.args.l) a.s.now p.0,
    )

pub returns-then-v-x : goal.returns-then-v-x
returns-then-v-x c =
    let a = c.args in
    let p = c.requires in
    let k = c.loop-k in
    let is : k.k - 1 + 1 ≡ k.k = omega arith in
    let low : k.k < length (decode a.l.least a.s.now).slots = omega (arith, c.loop-k-test.true, p.1) in
    let e = ap (λ (x : Slot). x.version) (c.slot-x.ensures ∙ slot_is (edition c.args.l) a.s.now p.0 k.k low) in
    past-stops a.v (decode a.l.least a.s.now).slots (k.k - 1) k.invariant (omega arith)
    (rw is (omega (arith, e, c.if-v-x.true)))

pub loop-k-preserved : goal.loop-k-preserved
loop-k-preserved c =
    let a = c.args in
    let p = c.requires in
    let k = c.loop-k in
    let is : k.k - 1 + 1 ≡ k.k = omega arith in
    let on : k.k + 1 - 1 ≡ k.k - 1 + 1 = omega arith in
    let low : k.k < length (decode a.l.least a.s.now).slots = omega (arith, c.loop-k-test.true, p.1) in
    let e = ap (λ (x : Slot). x.version) (c.slot-x.ensures ∙ slot_is (edition c.args.l) a.s.now p.0 k.k low) in
    rw on
    (past_more a.v (decode a.l.least a.s.now).slots (k.k - 1) k.invariant (omega arith)
    (rw is (omega (arith, e, c.if-v-x.false))))

pub returns : goal.returns
returns c =
    let a = c.args in
    let p = c.requires in
    let k = c.loop-k in
    let e : k.k - 1 ≡ a.roots - 1 = omega arith in
    rw (← e)
    (past_end a.v (decode a.l.least a.s.now).slots (k.k - 1) k.invariant (omega (arith, c.loop-k-test.false, p.1)))
