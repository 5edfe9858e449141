-- The calls on a lent list, test by test: what each gives and leaves.
use Rattle.std.specs.Prelude.{ℕ, ◌*◌, ◌≤◌, ◌≡◌, List, length, Result, Ok, Err}
use Rattle.model.specs.declared.refusal.Refusal.{Refusal}
use Rattle.model.specs.Refusals.{number_of}
use Rattle.plain.specs.declared.State.{State}
use Rattle.plain.specs.Plain.{Given, begin}
use Rattle.plain.specs.Items.{plain_of}

-- what a call on state s gave, and the plain store that it left: "Every number but 0 leaves store and list untouched."
abbrev pub given_by : State → Result State Refusal → List ℕ → Given
given_by s (Ok t) ns = record { number = 0; plain = plain_of t ns }
given_by s (Err r) ns = record { number = number_of r; plain = plain_of s ns }

-- the list has the room for the items that a call leaves
abbrev pub Room : Given → List ℕ → Type 0
Room g ns = 4 * length g.plain.items ≤ length ns

-- an open reads no item: whatever the list
abbrev pub Opens : State → Result State Refusal → Type 0
Opens s r = (ns : List ℕ) → given_by s r ns ≡ begin (plain_of s ns)
