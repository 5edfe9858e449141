-- `notes::both::both_over` meets its contract: rules 4 and 5 are what holds from v on. Assumes nothing.
use Prim.Native.Nat.{◌+◌}
use mathlib.Core.Path.{◌≡◌, ap, sym, ◌∙◌}
use mathlib.Core.Bool.{Bool, ◌&&◌}
use native.Mathlib.Omega.{arith}
use Rattle.model.specs.Layout.{decode}
use Rattle.notes.proofs.laws.Kept.{height-here}
use Rattle.notes.proofs.laws.Ready.{root-quiet, versions-upto}
use Rattle.notes.proofs.laws.Both.{both_at, both-slot, both-done, both-rules}
use Rattle.notes.proofs.both.both_over.Goals as goal
use Rattle.notes.proofs.both.both_over.Goals.{In_ok-hold}

pub loop-v-init : goal.loop-v-init
loop-v-init c =
    let a = c.args in
    let n = c.last-end.result in (
      omega (arith, c.requires.0.old, c.last-end.ensures),
      omega arith,
      c.requires.1,
      sym (both-rules a.l.least (decode a.l.least a.s.now) a.h.oldest (n + 1)
          (versions-upto a.l.least a.s.now a.h n c.requires.0.header c.last-end.ensures)),
    )

-- from v on: the versions up to the next slot, which have one root, and those behind them
slot : (c : In_ok-hold) → let a = c.args in
    let end = c.last-end.result + 1 in
    both_at a.l.least (decode a.l.least a.s.now) c.loop-v.v end
    ≡ (c.in_ok-hold.hold && both_at a.l.least (decode a.l.least a.s.now) c.slot_change-c.result end)
slot c =
    let a = c.args in
    let st = decode a.l.least a.s.now in
    let end = c.last-end.result + 1 in
    let v = c.loop-v.v in
    let root = c.root_at-root.result in
    let q = c.slot_change-c.result in
    let next = c.slot_change-c.ensures in
    both-slot a.l.least st c.height-up.result root v q end
    (height-here a.l.least a.s.now root c.root_at-root.ensures.1.is_page c.height-up.result
    c.height-up.ensures)
    (λ x low high. c.root_at-root.ensures.0
    ∙ root-quiet a.l.least a.s.now a.h v x q c.requires.0 low high next.1) (omega (arith, next.0.above))
    next.0.below
    ∙ ap (λ (b : Bool). b && both_at a.l.least st q end) (sym c.in_ok-hold.ensures.0)

-- a rule is broken in this stretch
pub returns-then-not-hold : goal.returns-then-not-hold
returns-then-not-hold c =
    let a = c.args in
    sym (c.loop-v.invariant.3 ∙ slot (goal.at.returns-then-not-hold c).In_ok-hold
    ∙ ap (λ (b : Bool). b && both_at a.l.least (decode a.l.least a.s.now) c.slot_change-c.result
    (c.last-end.result + 1)) c.if-not-hold.true)

pub loop-v-preserved : goal.loop-v-preserved
loop-v-preserved c =
    let a = c.args in (
      c.slot_change-c.ensures.0.below,
      omega (arith, c.slot_change-c.ensures.0.above, c.loop-v.invariant.1),
      c.in_ok-hold.ensures.1,
      c.loop-v.invariant.3 ∙ slot (goal.at.loop-v-preserved c).In_ok-hold
          ∙ ap (λ (b : Bool). b && both_at a.l.least (decode a.l.least a.s.now) c.slot_change-c.result
          (c.last-end.result + 1)) c.if-not-hold.false,
    )

pub returns : goal.returns
returns c =
    let a = c.args in
    sym (c.loop-v.invariant.3 ∙ both-done a.l.least (decode a.l.least a.s.now) c.loop-v.v
    (c.last-end.result + 1) c.loop-v-test.false)
