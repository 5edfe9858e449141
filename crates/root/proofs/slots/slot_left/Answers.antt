-- `slot_left` meets its contract. Assumes nothing.
use native.Mathlib.Omega.{arith}
use mathlib.Core.Path.{ap, ◌∙◌}
use lib.Dec.{ltb}
use Rattle.model.specs.declared.Header.{Header}
use Rattle.page.proofs.laws.Editions.{slots-is}
use Rattle.parts.proofs.laws.Kept.{front, short}
use Rattle.root.proofs.laws.Slotted.{roots-are}
use Rattle.root.proofs.slots.slot_left.Goals as goal

pub header-h-requires : goal.header-h-requires
header-h-requires c = let k = c.requires.0 in (omega (arith, front k), short k)

pub returns-then-has_slot : goal.returns-then-has_slot
returns-then-has_slot c = rw (← c.has_slot.ensures, c.if-has_slot.true)

pub returns-else-has_slot : goal.returns-else-has_slot
returns-else-has_slot c =
    let k = c.requires.0 in
    let r = ap (λ (h : Header). h.roots) c.header-h.ensures ∙ roots-are k in
    rw (← c.has_slot.ensures, c.if-has_slot.false, r) (ap (ltb _) (slots-is k.edition))
