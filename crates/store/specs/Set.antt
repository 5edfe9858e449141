-- A page, a slot or the header set in the bytes is set in the store, and nothing else moves.
use Rattle.std.specs.Prelude.{ℕ, Bool, List}
use Rattle.model.specs.declared.Slot.{Slot}
use Rattle.model.specs.Page.{Page}
use Rattle.model.specs.Store.{Store}

abbrev pub with_pages : Store → List Page → Store
with_pages s ps = record { current = s.current; opened = s.opened; oldest = s.oldest; slots = s.slots; pages = ps }

abbrev pub with_slots : Store → List Slot → Store
with_slots s xs = record { current = s.current; opened = s.opened; oldest = s.oldest; slots = xs; pages = s.pages }

abbrev pub with_state : Store → ℕ → Bool → Store
with_state s v b = record { current = v; opened = b; oldest = s.oldest; slots = s.slots; pages = s.pages }
