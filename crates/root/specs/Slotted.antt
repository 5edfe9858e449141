-- The slots of a store whose update is open, and what a new root makes of them in the bytes.
use Rattle.std.specs.Prelude.{ℕ, ◌^◌, ◌<◌, ◌≡◌, true, List, leb, ltb, length}
use Rattle.model.specs.declared.Limits.{Limits}
use Rattle.model.specs.declared.Slot.{Slot}
use Rattle.model.specs.Basic.{all, in_order}
use Rattle.model.specs.Store.{next}
use Rattle.model.specs.Layout.{decode, encode}
use Rattle.model.specs.Climb.{put_slot}
use Rattle.store.specs.Set.{with_slots}

-- the slots of the store
abbrev pub slots_of : Limits → List ℕ → List Slot
slots_of l b = (decode l.least b).slots

-- they begin somewhere, rise, and none is above the open version, which its bits hold
pub record Slotted (l : Limits) (b : List ℕ) : Type 0 where
  pub some : 0 < length (slots_of l b)
  pub rises : in_order (λ (x y : Slot). ltb x.version y.version) (slots_of l b) ≡ true
  pub upto : all (λ (x : Slot). leb x.version (next (decode l.least b))) (slots_of l b) ≡ true
  pub low : next (decode l.least b) < 2 ^ 20

-- "A new root takes the directory slot of the open version, or replaces it there": page n has it
abbrev pub with_open_slot : (l : Limits) (b : List ℕ) (n : ℕ) → List ℕ
with_open_slot l b n = encode l.least (with_slots (decode l.least b) (put_slot (next (decode l.least b)) n (slots_of l b)))
