-- 2026-14: "A second layer above the store knows each key's kind: a whole number with its limits, a switch, or a level with its lowest and
-- highest float." Which values a kind admits, and the table in which a caller lends the kinds.
-- Assumes nothing.
use Rattle.std.specs.Prelude.{ℕ, zero, suc, ◌+◌, ◌/◌, ◌%◌, Bool, true, false, ◌&&◌, List, leb, ltb, eqb, length, get_or, Float}
use Rattle.std.specs.Float.{binary32}
use Rattle.std.specs.Float.Ieee.{of_bits, le}
use Rattle.model.specs.Basic.{pick}
use Rattle.model.specs.declared.Kind.{Kind}
use Rattle.model.specs.declared.Kind.TheVariants.{Whole, Switch, Level}
use Rattle.std.specs.Prelude.{Option, Some, None}
use Rattle.model.specs.Walk.{key_limit}

-- ---- a value of the kind

-- "inside the limits, both ends included"
abbrev pub whole_in : (low high x : ℕ) → Bool
whole_in low high x = leb low x && leb x high

-- the same of floats, where no comparison holds of a NaN: "a NaN is refused"
abbrev pub level_in : Float → Float → Float → Bool
level_in low high x = le low x && le x high

-- "A value is an unsigned number, 0 or 1, or the bits of a 32-bit float."
abbrev pub admits : Kind → ℕ → Bool
admits (Whole low high) x = whole_in low high x
admits Switch x = leb x 1
admits (Level low high) x = level_in low high (of_bits binary32 x)

-- ---- the table: four numbers a row, a key, the number of its kind, and its lowest and highest, a level's as the bits of two floats

-- A switch's limits say nothing. Another number is no kind: such a row says nothing of its key.
abbrev pub row_kind : (number low high : ℕ) → Option Kind
row_kind number low high =
    pick (eqb number 0) (Some (Whole low high))
    (pick (eqb number 1) (Some Switch)
    (pick (eqb number 2) (Some (Level (of_bits binary32 low) (of_bits binary32 high))) None))

-- what the row that begins at place `at` says of its key
abbrev pub row_at : List ℕ → ℕ → Option Kind
row_at table at = row_kind (get_or table (at + 1) 0) (get_or table (at + 2) 0) (get_or table (at + 3) 0)

-- among n rows from place `at` on, the first that has the key counts
unfoldable pub known_from : ℕ → List ℕ → ℕ → ℕ → Option Kind
known_from zero table at key = None
known_from (suc n) table at key = pick (eqb (get_or table at 0) key) (row_at table at) (known_from n table (at + 4) key)

unfoldable pub known_in : List ℕ → ℕ → Option Kind
known_in table key = known_from (length table / 4) table 0 key

-- ---- the layer's own numbers

-- "refusing others with 16"; "An unknown key is refused with 17"
abbrev pub allowed : Option Kind → ℕ → ℕ
allowed (Some kind) x = pick (admits kind x) 0 16
allowed None x = 17

-- where no value comes: on reading, and of a delete
abbrev pub unknown : Option Kind → ℕ
unknown (Some kind) = 0
unknown None = 17

abbrev pub kind_number : Kind → ℕ
kind_number (Whole low high) = 0
kind_number Switch = 1
kind_number (Level low high) = 2

-- of a reading that asks for one kind: a key of another kind is refused as a value of another kind is, with 16
abbrev pub unlike : ℕ → Option Kind → ℕ
unlike number (Some kind) = pick (eqb (kind_number kind) number) 0 16
unlike number None = 17

-- ---- a table that is right: keys rise, kinds are known, limits are in order

abbrev pub in_limits : Kind → Bool
in_limits (Whole low high) = leb low high
in_limits Switch = true
in_limits (Level low high) = le low high

abbrev pub right_kind : Option Kind → Bool
right_kind (Some kind) = in_limits kind
right_kind None = false

-- the row at place `at`, whose key is to be at least `least`
abbrev pub row_right : List ℕ → ℕ → ℕ → Bool
row_right table at least = leb least (get_or table at 0) && ltb (get_or table at 0) key_limit && right_kind (row_at table at)

-- the first wrong row, counted from 1, or 0; numbers behind the last whole row are a wrong row too
unfoldable pub wrong_from : ℕ → List ℕ → ℕ → ℕ → ℕ
wrong_from zero table at least = pick (eqb (length table % 4) 0) 0 (at / 4 + 1)
wrong_from (suc n) table at least = pick (row_right table at least) (wrong_from n table (at + 4) (suc (get_or table at 0))) (at / 4 + 1)

unfoldable pub wrong_row : List ℕ → ℕ
wrong_row table = wrong_from (length table / 4) table 0 0
