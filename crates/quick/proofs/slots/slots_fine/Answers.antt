use Rattle.quick.proofs.laws.Slots.{slots-start, slots-fine-step, slots-fine-end}
use Rattle.spans.specs.Quick.{slots_fine}
use Rattle.model.specs.Layout.{decode}
use Rattle.model.specs.declared.Header.{Header}
use Prim.Native.Nat.{ℕ, ◌*◌}
use mathlib.Core.List.{List}
use Rattle.model.specs.declared.Slot.{Slot}
use Rattle.store.proofs.laws.Read.{oldest-of}
use mathlib.Core.Path.{◌≡◌, ap, ap₂, sym, ◌∙◌}
use Rattle.quick.proofs.slots.slots_fine.Goals as goal

pub loop-i-init : goal.loop-i-init
loop-i-init c =
    let a = c.args in
    let e = ap (λ (x : Header). x.roots) c.header-h.ensures in
    let o : (decode a.l.least a.s.now).oldest ≡ c.header-h.result.oldest = oldest-of a.l.least a.s.now
    ∙ ap (λ (x : Header). x.oldest) (sym c.header-h.ensures) in (
      e,
      ap₂ (λ (n : ℕ) (xs : List Slot). slots_fine a.l.least n (decode a.l.least a.s.now).pages xs) o
          (slots-start a.l.least a.s.now c.header-h.result.roots e),
    )

pub returns-then-not-slot_fine : goal.returns-then-not-slot_fine
returns-then-not-slot_fine c =
    let a = c.args in let k = c.loop-i in
    sym (k.invariant.1 ∙ slots-fine-step a.s.now (512 * a.l.least) k.i c.header-h.result.roots a.l.least
    c.header-h.result.oldest (decode a.l.least a.s.now).pages c.loop-i-test.true
    ∙ rw (← c.slot_fine.ensures, c.if-not-slot_fine.true))

pub loop-i-preserved : goal.loop-i-preserved
loop-i-preserved c =
    let a = c.args in let k = c.loop-i in (
      k.invariant.0,
      k.invariant.1 ∙ slots-fine-step a.s.now (512 * a.l.least) k.i c.header-h.result.roots a.l.least
          c.header-h.result.oldest (decode a.l.least a.s.now).pages c.loop-i-test.true
          ∙ rw (← c.slot_fine.ensures, c.if-not-slot_fine.false),
    )

pub returns : goal.returns
returns c =
    let a = c.args in let k = c.loop-i in
    sym (k.invariant.1 ∙ slots-fine-end a.s.now (512 * a.l.least) k.i c.header-h.result.roots a.l.least
    c.header-h.result.oldest (decode a.l.least a.s.now).pages c.loop-i-test.false)
