-- `take_slot` meets its contract. Assumes nothing.
use mathlib.Core.Path.{sym, ◌∙◌}
use Prim.Native.Nat.{◌*◌}
use borrow.Author.Tests.{ltb-true}
use lib.ListN.{length}
use Rattle.root.specs.Slotted.{slots_of}
use Rattle.root.proofs.slots.take_slot.Goals as goal

pub replace_slot-requires : goal.replace_slot-requires
replace_slot-requires c = (c.requires.0, c.requires.1, c.requires.2, sym c.has_slot.ensures ∙ c.if-has_slot.true)

pub add_slot-requires : goal.add_slot-requires
add_slot-requires c =
    let e = sym c.has_slot.ensures ∙ c.if-has_slot.false in (
      c.requires.0,
      c.requires.1,
      c.requires.2,
      e,
      ltb-true (length (slots_of c.args.l c.args.s.now)) (64 * c.args.l.least) (rw e at c.requires.3),
    )

pub returns-then-has_slot : goal.returns-then-has_slot
returns-then-has_slot c = c.replace_slot.ensures

pub returns-else-has_slot : goal.returns-else-has_slot
returns-else-has_slot c = c.add_slot.ensures
