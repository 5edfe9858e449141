-- The slot of the open version is the last one, if there is one.
use Rattle.std.specs.Prelude.{ℕ, ◌+◌, ◌*◌, ◌-◌, ◌≤◌, ◌≡◌, List}
use Rattle.model.specs.Field.{lay}
use Rattle.model.specs.Layout.{no_slot, read_slot}
use Rattle.store.specs.Slots.{slot_parts}

-- what is left of the directory in bytes: the last slot is zeroed where it is that of version w
abbrev pub last_place : ℕ → ℕ → ℕ
last_place least roots = 512 * least + 32 * (roots - 1)

pub record Cleared (least : ℕ) (b b' : List ℕ) (roots w r : ℕ) : Type 0 where
  pub fewer : r ≤ roots
  pub goes : (read_slot b (last_place least roots)).version ≡ w → (b' ≡ lay b (last_place least roots) (slot_parts no_slot)) × (r ≡ roots - 1)
  pub stays : ((read_slot b (last_place least roots)).version ≡ w → ⊥) → (b' ≡ b) × (r ≡ roots)
