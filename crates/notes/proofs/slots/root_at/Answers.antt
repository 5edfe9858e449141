-- `notes::slots::root_at` meets its contract: the slots from i on, after r, give the root of v. Assumes nothing.
use Prim.Native.Nat.{◌≤◌, ◌<◌}
use mathlib.Core.Path.{◌≡◌, ap, sym, ◌∙◌}
use borrow.Author.Tests.{lt-leb, le-leb}
use Rattle.notes.proofs.laws.Ready.{root-start, root-step, root-end}
use Rattle.local.specs.Local.{slot_at}
use Rattle.model.specs.declared.Slot.{Slot}
use Rattle.notes.proofs.slots.root_at.Goals as goal
use Rattle.notes.proofs.slots.root_at.Goals.{then-x-v, else-x-v}

pub loop-i-init : goal.loop-i-init
loop-i-init c =
    let a = c.args in let y = c.requires.0 in
    let e : c.slot-r.result.root ≡ (slot_at a.l.least a.s.now 0).root = ap (λ (x : Slot). x.root) c.slot-r.ensures in
    (rw e (root-start a.l.least a.s.now a.v a.h y c.requires.1), rw e (y.rooted 0 y.some))

pub loop-i-preserved : goal.loop-i-preserved
loop-i-preserved c =
    let a = c.args in let y = c.requires.0 in let k = c.loop-i in let x = c.slot-x.ensures in
    let n = root-step a.l.least a.s.now a.v k.r k.i a.h.roots c.loop-i-test.true in
    elim c.if-x-v.branch [
      | then-x-v w ↦ let e : c.if-x-v.r ≡ (slot_at a.l.least a.s.now k.i).root = w.r-is ∙ ap (λ (z : Slot). z.root) x in
          let h : (slot_at a.l.least a.s.now k.i).version ≤ a.v = rw x at w.if-x-v.true in (
            k.invariant.0 ∙ n ∙ rw (le-leb (slot_at a.l.least a.s.now k.i).version a.v h, e),
            rw e (y.rooted k.i c.loop-i-test.true),
          )
      | else-x-v w ↦ let e : c.if-x-v.r ≡ k.r = w.r-is in
          let h : a.v < (slot_at a.l.least a.s.now k.i).version = rw x at w.if-x-v.false in (
            k.invariant.0 ∙ n ∙ rw (lt-leb (slot_at a.l.least a.s.now k.i).version a.v h, e),
            rw e k.invariant.1,
          )
    ]

pub returns : goal.returns
returns c =
    let a = c.args in let k = c.loop-i in
    (sym (k.invariant.0 ∙ root-end a.l.least a.s.now a.v k.r k.i a.h.roots c.loop-i-test.false), k.invariant.1)
