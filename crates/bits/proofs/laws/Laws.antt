-- Laws of bit fields. Assumes nothing.
use Prim.Native.Nat.{ℕ, zero, suc, ◌+◌, ◌*◌, ◌-◌, ◌/◌, ◌%◌, ◌^◌, ◌≤◌, ◌<◌}
use mathlib.Core.Path.{◌≡◌, refl, ap, ◌∙◌}
use mathlib.Core.List.{List}
use lib.ListN.{get_or}
use lib.Pow.{pow_mono, shr-shr, high, low}
use native.Mathlib.Nat.{two-pow-succ, add-suc, add-zero, mul-add, mul-one, add_assoc}
use native.Mathlib.Omega.{arith}
use Rattle.model.specs.Field.{field, bit_at, bit_of}

pub bit-lt : (s : List ℕ) (k : ℕ) → bit_at s k < 2
unfolding bit_at
bit-lt s k = omega arith

-- a field is below the power of its width
pub field_lt : (s : List ℕ) (at n : ℕ) → field s at n < 2 ^ n
unfolding field
field_lt s at zero = omega arith
field_lt s at (suc n) = rw two-pow-succ (omega (arith, field_lt s at n, bit-lt s (at + n)))

-- a field of m + n bits is one of m and then one of n
pub field-split : (s : List ℕ) (at m n : ℕ) → field s at (m + n) ≡ field s at m * 2 ^ n + field s (at + m) n
unfolding field
field-split s at m zero = rw (add-zero, add-zero, mul-one) refl
field-split s at m (suc n) = rw (add-suc, field-split s at m n, two-pow-succ, mul-add, add_assoc at m n) (omega arith)

-- two lists that agree on the bits have the same field
pub field-ext : (s t : List ℕ) (a b n : ℕ) → ((i : ℕ) → i < n → bit_at s (a + i) ≡ bit_at t (b + i)) → field s a n ≡ field t b n
unfolding field
field-ext s t a b zero h = refl
field-ext s t a b (suc n) h =
    let e : field s a n ≡ field t b n = field-ext s t a b n (λ i l. h i (omega arith)) in
    rw (e, h n (omega arith))

-- a field of at most 32 bits fits a u32
pub field_fits : (s : List ℕ) (at n : ℕ) → n ≤ 32 → field s at n < 2 ^ 32
field_fits s at n h = omega (arith, field_lt s at n, pow_mono h)

-- a field by its place in bytes
pub field-bytes : (s : List ℕ) (k at n : ℕ) → 8 * k ≡ at → field s (8 * k) n ≡ field s at n
field-bytes s k at n e = ap (λ (a : ℕ). field s a n) e

-- bit j of byte k
pub bit_in : (s : List ℕ) (k j : ℕ) → j < 8 → bit_at s (8 * k + j) ≡ bit_of (get_or s k 0) j
unfolding bit_at
bit_in s k j h =
    let q : (8 * k + j) / 8 ≡ k = omega arith in
    let r : (8 * k + j) % 8 ≡ j = omega arith in
    rw (q, r)

-- the first n bits of a byte
pub field-first : (s : List ℕ) (k n : ℕ) → n ≤ 8 → get_or s k 0 < 256 → field s (8 * k) n ≡ get_or s k 0 / 2 ^ (8 - n)
unfolding field
field-first s k zero h b = omega arith
field-first s k (suc n) h b =
    let b7 : 8 - suc n ≡ 7 - n = omega arith in
    let b8 : 8 - n ≡ (7 - n) + 1 = omega arith in
    rw (field-first s k n (omega arith) b, bit_in s k n (omega arith), b7, b8, ← shr-shr (get_or s k 0) (7 - n) 1) (omega arith)

-- a byte is the field of its eight bits
pub field-byte : (s : List ℕ) (k : ℕ) → get_or s k 0 < 256 → field s (8 * k) 8 ≡ get_or s k 0
field-byte s k b = field-first s k 8 (omega arith) b ∙ omega arith

-- the middle of a longer field
pub field-trim : (s : List ℕ) (at j w t : ℕ) → field s at (j + w + t) / 2 ^ t % 2 ^ w ≡ field s (at + j) w
field-trim s at j w t =
    rw (field-split s at (j + w) t, high (field s at (j + w)) t (field_lt s (at + (j + w)) t), field-split s at j w)
    (low (field s at j) w (field_lt s (at + j) w))

-- a field with one byte more
pub field-more-byte : (s : List ℕ) (k i : ℕ) → get_or s (k + i) 0 < 256
    → field s (8 * k) (8 * i) * 256 + get_or s (k + i) 0 ≡ field s (8 * k) (8 * (i + 1))
field-more-byte s k i b =
    let e : 8 * (i + 1) ≡ 8 * i + 8 = omega arith in
    let f : 8 * k + 8 * i ≡ 8 * (k + i) = omega arith in
    rw (e, field-split s (8 * k) (8 * i) 8, f, field-byte s (k + i) b)

-- a field is the middle of the whole bytes that it touches
pub field-whole : (s : List ℕ) (at w n spare : ℕ) → 8 * n ≡ at % 8 + w + spare
    → field s (8 * (at / 8)) (8 * n) / 2 ^ spare % 2 ^ w ≡ field s at w
field-whole s at w n spare e =
    let f : 8 * (at / 8) + at % 8 ≡ at = omega arith in
    rw (e, field-trim s (8 * (at / 8)) (at % 8) w spare, f)
