-- "Fields are packed with the most significant bit first."
-- Assumes nothing.
use Rattle.std.specs.Prelude.{ℕ, zero, suc, ◌+◌, ◌*◌, ◌-◌, ◌/◌, ◌%◌, ◌^◌, ◌<◌, List, [], ◌∷◌, get_or, set, replicate}

-- ---- read

-- the bit at place j of a byte: place 0 is the most significant
abbrev pub bit_of : ℕ → ℕ → ℕ
bit_of b j = b / 2 ^ (7 - j) % 2

-- bit k of a list of bytes
unfoldable pub bit_at : List ℕ → ℕ → ℕ
bit_at s k = bit_of (get_or s (k / 8) 0) (k % 8)

-- the number of the bits at, at + 1, .. , of which there are so many
unfoldable pub field : List ℕ → ℕ → ℕ → ℕ
field s at zero = 0
field s at (suc n) = field s at n * 2 + bit_at s (at + n)

-- ---- written

-- a byte with its bit at place j made v, which is 0 or 1
unfoldable pub put_bit : (b j v : ℕ) → ℕ
put_bit b j v = (b / 2 ^ (7 - j) / 2 * 2 + v) * 2 ^ (7 - j) + b % 2 ^ (7 - j)

-- a list of bytes with its bit k made v
unfoldable pub set_bit : List ℕ → ℕ → ℕ → List ℕ
set_bit s k v = set s (k / 8) (put_bit (get_or s (k / 8) 0) (k % 8) v)

-- a list of bytes whose bits at, at + 1, .. , so many, are made the number v
unfoldable pub put_field : (s : List ℕ) (at n v : ℕ) → List ℕ
put_field s at zero v = s
put_field s at (suc n) v = set_bit (put_field s at n (v / 2)) (at + n) (v % 2)

-- ---- one after the other

pub record Part : Type 0 where
  pub width : ℕ
  pub value : ℕ

infix 70 ◌bits◌
abbrev pub ◌bits◌ : ℕ → ℕ → Part
w bits n = record { width = w; value = n }

-- a list of bytes with these fields from bit `at` on
unfoldable pub lay : List ℕ → ℕ → List Part → List ℕ
lay s at [] = s
lay s at (f ∷ fs) = lay (put_field s at f.width f.value) (at + f.width) fs

-- so many zero bytes
unfoldable pub zeros : ℕ → List ℕ
zeros n = replicate n 0

-- so many bytes that begin with these fields: "Undefined bits are zero."
unfoldable pub packed : ℕ → List Part → List ℕ
packed n fs = lay (zeros n) 0 fs

-- each element is a byte
abbrev pub Bytes : List ℕ → Type 0
Bytes s = (i : ℕ) → get_or s i 0 < 256
