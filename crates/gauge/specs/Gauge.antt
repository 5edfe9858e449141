-- What the functions of this crate give.
use Rattle.std.specs.Prelude.{ℕ, zero, suc, ◌+◌, ◌*◌, Bool, ◌&&◌, List, leb, eqb, replicate, take}
use Rattle.model.specs.declared.Entry.{Entry}
use Rattle.model.specs.declared.Pair.{Pair}
use Rattle.model.specs.Field.{field}
use Rattle.model.specs.Page.{filled}
use Rattle.model.specs.Layout.{read_entry, encode_page}

-- n pieces of 96 bits from bit `at` on stand in so many bytes
abbrev pub fits : (len at width n : ℕ) → Bool
fits len at width n = leb len 1048576 && (leb at 1048576 && (leb width 32 && (leb n 1048576 && leb (at + 96 * n) (8 * len))))

-- the sum of n fields, 96 bits from one to the next
unfoldable pub field_sum : (s : List ℕ) (at width n : ℕ) → ℕ
field_sum s at width zero = 0
field_sum s at width (suc n) = field_sum s at width n + field s (at + 96 * n) width

abbrev pub weight : Entry → ℕ
weight e = e.key + e.start + e.end + e.value

-- the sum of all fields of the first n entries
unfoldable pub entry_sum : List ℕ → ℕ → ℕ
entry_sum p zero = 0
entry_sum p (suc n) = entry_sum p n + weight (read_entry p (128 + 96 * n))

-- a page of 256 bytes takes n entries of this version and key
abbrev pub fill_fits : (len w key n : ℕ) → Bool
fill_fits len w key n = eqb len 256 && (leb w 1048575 && (leb key 16777215 && leb n 20))

abbrev pub fill_pairs : ℕ → ℕ → List Pair
fill_pairs key value = replicate 56 (record { key = key; value = value })

-- a leaf of version w with n entries, all of one key and value
unfoldable pub filled_page : (w key value n : ℕ) → List ℕ
filled_page w key value n = encode_page 4 (filled w 1 (take n (fill_pairs key value)))
