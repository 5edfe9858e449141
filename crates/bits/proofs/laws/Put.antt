-- Laws of bit fields that are written. Assumes nothing.
use Prim.Native.Nat.{ℕ, zero, suc, ◌+◌, ◌*◌, ◌-◌, ◌/◌, ◌%◌, ◌^◌, ◌≤◌, ◌<◌}
use mathlib.Core.Path.{◌≡◌, refl, ap, sym, ◌∙◌}
use mathlib.Core.List.{List}
use mathlib.Core.Logic.{◌⊎◌, inl, inr, ⊎_elim, ◌≢◌}
use lib.ListN.{length, get_or, set, length-set}
use lib.Seq.{get_or-set_same, get_or-set_other, ext_get_or}
use lib.Pow.{pow_pos, pow-add, shr-shr, shr_lt}
use lib.Arith.{digits_div, digits_lt}
use native.Mathlib.Nat.{mod-lt, two-pow-succ, mul_assoc, mul-add-div_right, div-add-mod'}
use native.Mathlib.Numerals.{add-one}
use native.Mathlib.Decide.{dec_lt}
use native.Mathlib.Omega.{arith}
use Rattle.model.specs.Field.{field, bit_at, bit_of, put_bit, set_bit, put_field, Bytes}
use Rattle.model.proofs.lists.Bools.{same?}
use Rattle.bits.proofs.laws.Laws.{field-ext, field-byte}

-- ---- tests on numbers, as sums

pub less : (m n : ℕ) → (m < n) ⊎ (n ≤ m)
less m n = elim (dec_lt m n) [ yes h ↦ inl h | no h ↦ inr (omega arith) ]

-- ---- one bit of a byte

-- two numbers that differ only above bit m have the same bit m
low_bit : (x y l m d : ℕ) → (x * 2 ^ (d + (1 + m)) + l) / 2 ^ m % 2 ≡ (y * 2 ^ (d + (1 + m)) + l) / 2 ^ m % 2
low_bit x y l m d = one x ∙ sym (one y)
  where
    one : (z : ℕ) → (z * 2 ^ (d + (1 + m)) + l) / 2 ^ m % 2 ≡ l / 2 ^ m % 2
    one z =
        let p : z * 2 ^ (d + (1 + m)) ≡ z * 2 ^ d * 2 * 2 ^ m = rw (pow-add 2 d (1 + m), pow-add 2 1 m) (simp mul_assoc) in
        rw (p, mul-add-div_right (pow_pos m) (z * 2 ^ d * 2) l) (omega arith)

pub bit-put-same : (b j v : ℕ) → v < 2 → bit_of (put_bit b j v) j ≡ v
unfolding put_bit
bit-put-same b j v h = rw (digits_div (b / 2 ^ (7 - j) / 2 * 2 + v) (mod-lt b (pow_pos (7 - j)))) (omega arith)

put-high : (b j v : ℕ) → v < 2 → put_bit b j v / 2 ^ (7 - j) / 2 ≡ b / 2 ^ (7 - j) / 2
unfolding put_bit
put-high b j v h = rw (digits_div (b / 2 ^ (7 - j) / 2 * 2 + v) (mod-lt b (pow_pos (7 - j)))) (omega arith)

put-above : (b i j v d : ℕ) → v < 2 → 7 - i ≡ (7 - j) + 1 + d → bit_of (put_bit b j v) i ≡ bit_of b i
put-above b i j v d h e =
    rw (e, ← shr-shr b (7 - j + 1) d, ← shr-shr b (7 - j) 1, ← shr-shr (put_bit b j v) (7 - j + 1) d, ← shr-shr (put_bit b j v) (7 - j) 1)
    (ap (λ (x : ℕ). x / 2 ^ d % 2) (put-high b j v h))

put-below : (b i j v d : ℕ) → 7 - j ≡ d + (1 + (7 - i)) → bit_of (put_bit b j v) i ≡ bit_of b i
unfolding put_bit
put-below b i j v d e =
    rw (← e) at (low_bit (b / 2 ^ (7 - j) / 2 * 2 + v) (b / 2 ^ (7 - j)) (b % 2 ^ (7 - j)) (7 - i) d)
    ∙ ap (λ (x : ℕ). x / 2 ^ (7 - i) % 2) (div-add-mod' b (2 ^ (7 - j)))

pub bit-put-other : (b i j v : ℕ) → v < 2 → i < 8 → j < 8 → i ≢ j → bit_of (put_bit b j v) i ≡ bit_of b i
bit-put-other b i j v h hi hj ne =
    ⊎_elim (λ l. put-above b i j v ((7 - i) - (7 - j + 1)) h (omega arith)) (λ l. put-below b i j v ((7 - j) - (1 + (7 - i))) (omega arith))
    (less i j)

-- it stays a byte
pub put_byte : (b j v : ℕ) → j < 8 → v < 2 → b < 256 → put_bit b j v < 256
unfolding put_bit
put_byte b j v hj hv hb =
    let w : j + 1 + (7 - j) ≡ 8 = omega arith in
    let e : 2 ^ (j + 1) * 2 ^ (7 - j) ≡ 256 = sym (pow-add 2 (j + 1) (7 - j)) ∙ ap (λ (x : ℕ). 2 ^ x) w in
    let q : b / 2 ^ (7 - j) < 2 ^ (j + 1) = shr_lt (j + 1) (7 - j) (rw (pow-add 2 (j + 1) (7 - j), e) hb) in
    let f : 2 ^ (j + 1) ≡ 2 ^ j + 2 ^ j = ap (λ (x : ℕ). 2 ^ x) (add-one j) ∙ two-pow-succ j in
    rw (← e) (digits_lt {q = b / 2 ^ (7 - j) / 2 * 2 + v} {m = 2 ^ (j + 1)} (omega arith) (mod-lt b (pow_pos (7 - j))))

-- ---- one bit of a list

pub length-set_bit : (s : List ℕ) (k v : ℕ) → length (set_bit s k v) ≡ length s
unfolding set_bit
length-set_bit s k v = simp length-set

pub bit-set-same : (s : List ℕ) (k v : ℕ) → k < 8 * length s → v < 2 → bit_at (set_bit s k v) k ≡ v
unfolding set_bit bit_at
bit-set-same s k v h hv =
    rw (get_or-set_same s (k / 8) (put_bit (get_or s (k / 8) 0) (k % 8) v) 0 (omega arith)) (bit-put-same (get_or s (k / 8) 0) (k % 8) v hv)

pub bit-set-other : (s : List ℕ) (k i v : ℕ) → k < 8 * length s → v < 2 → i ≢ k → bit_at (set_bit s k v) i ≡ bit_at s i
unfolding set_bit bit_at
bit-set-other s k i v h hv ne = ⊎_elim here there (same? (i / 8) (k / 8))
  where
    here : i / 8 ≡ k / 8 → bit_at (set_bit s k v) i ≡ bit_at s i
    here e =
        let x : ℕ = put_bit (get_or s (k / 8) 0) (k % 8) v in
        rw (e, get_or-set_same s (k / 8) x 0 (omega arith))
        (bit-put-other (get_or s (k / 8) 0) (i % 8) (k % 8) v hv (omega arith) (omega arith) (λ q. ne (omega arith)))

    there : i / 8 ≢ k / 8 → bit_at (set_bit s k v) i ≡ bit_at s i
    there n = rw (get_or-set_other s (k / 8) (i / 8) (put_bit (get_or s (k / 8) 0) (k % 8) v) 0 n)

pub bytes-set_bit : (s : List ℕ) (k v : ℕ) → Bytes s → k < 8 * length s → v < 2 → Bytes (set_bit s k v)
unfolding set_bit
bytes-set_bit s k v b h hv i = ⊎_elim here there (same? i (k / 8))
  where
    here : i ≡ k / 8 → get_or (set_bit s k v) i 0 < 256
    here e =
        rw (e, get_or-set_same s (k / 8) (put_bit (get_or s (k / 8) 0) (k % 8) v) 0 (omega arith))
        (put_byte (get_or s (k / 8) 0) (k % 8) v (omega arith) hv (b (k / 8)))

    there : i ≢ k / 8 → get_or (set_bit s k v) i 0 < 256
    there n = rw (get_or-set_other s (k / 8) i (put_bit (get_or s (k / 8) 0) (k % 8) v) 0 n) (b i)

-- ---- a field

pub length-put : (s : List ℕ) (at n v : ℕ) → length (put_field s at n v) ≡ length s
unfolding put_field
length-put s at zero v = refl
length-put s at (suc n) v = length-set_bit (put_field s at n (v / 2)) (at + n) (v % 2) ∙ length-put s at n (v / 2)

pub bytes-put : (s : List ℕ) (at n v : ℕ) → Bytes s → at + n ≤ 8 * length s → Bytes (put_field s at n v)
unfolding put_field
bytes-put s at zero v b h = b
bytes-put s at (suc n) v b h =
    bytes-set_bit (put_field s at n (v / 2)) (at + n) (v % 2) (bytes-put s at n (v / 2) b (omega arith))
    (omega (arith, length-put s at n (v / 2))) (omega arith)

pub bit-put-out : (s : List ℕ) (at n v i : ℕ) → at + n ≤ 8 * length s → (i < at) ⊎ (at + n ≤ i) → bit_at (put_field s at n v) i ≡ bit_at s i
unfolding put_field
bit-put-out s at zero v i h o = refl
bit-put-out s at (suc n) v i h o =
    bit-set-other (put_field s at n (v / 2)) (at + n) i (v % 2) (omega (arith, length-put s at n (v / 2))) (omega arith)
    (⊎_elim (λ l. omega arith) (λ l. omega arith) o)
    ∙ bit-put-out s at n (v / 2) i (omega arith) (⊎_elim (λ l. inl l) (λ l. inr (omega arith)) o)

-- a field that is written and read back
pub field-put-same : (s : List ℕ) (at n v : ℕ) → at + n ≤ 8 * length s → v < 2 ^ n → field (put_field s at n v) at n ≡ v
unfolding put_field field
field-put-same s at zero v h hv = omega arith
field-put-same s at (suc n) v h hv =
    let p : List ℕ = put_field s at n (v / 2) in
    let l : at + n < 8 * length p = omega (arith, length-put s at n (v / 2)) in
    let e : field (set_bit p (at + n) (v % 2)) at n ≡ field p at n
    = field-ext (set_bit p (at + n) (v % 2)) p at at n (λ i k. bit-set-other p (at + n) (at + i) (v % 2) l (omega arith) (omega arith)) in
    rw (e, field-put-same s at n (v / 2) (omega arith) (omega (arith, two-pow-succ n)), bit-set-same p (at + n) (v % 2) l (omega arith))
    (omega arith)

-- a field beside the one that is written
pub field-put-other : (s : List ℕ) (at n v a m : ℕ) → at + n ≤ 8 * length s → (a + m ≤ at) ⊎ (at + n ≤ a)
    → field (put_field s at n v) a m ≡ field s a m
field-put-other s at n v a m h o =
    field-ext (put_field s at n v) s a a m λ i l. bit-put-out s at n v (a + i) h (⊎_elim (λ k. inl (omega arith)) (λ k. inr (omega arith)) o)

-- ---- equal fields, equal bytes

pub bits-ext : (s t : List ℕ) → Bytes s → Bytes t → length s ≡ length t → ((i : ℕ) → i < 8 * length s → bit_at s i ≡ bit_at t i) → s ≡ t
bits-ext s t bs bt e h =
    ext_get_or 0 s t e λ i l.
    sym (field-byte s i (bs i)) ∙ field-ext s t (8 * i) (8 * i) 8 (λ j k. h (8 * i + j) (omega arith)) ∙ field-byte t i (bt i)

-- a whole byte
pub put-byte-whole : (s : List ℕ) (k v : ℕ) → Bytes s → k < length s → v < 256 → put_field s (8 * k) 8 v ≡ set s k v
put-byte-whole s k v b h hv =
    ext_get_or 0 (put_field s (8 * k) 8 v) (set s k v) (length-put s (8 * k) 8 v ∙ sym (length-set s k v)) λ i l.
    sym (field-byte (put_field s (8 * k) 8 v) i (bytes-put s (8 * k) 8 v b (omega arith) i)) ∙ ⊎_elim (here i) (there i) (same? i k)
  where
    here : (i : ℕ) → i ≡ k → field (put_field s (8 * k) 8 v) (8 * i) 8 ≡ get_or (set s k v) i 0
    here i e = rw e (field-put-same s (8 * k) 8 v (omega arith) hv ∙ sym (get_or-set_same s k v 0 h))

    there : (i : ℕ) → i ≢ k → field (put_field s (8 * k) 8 v) (8 * i) 8 ≡ get_or (set s k v) i 0
    there i n =
        field-put-other s (8 * k) 8 v (8 * i) 8 (omega arith) (⊎_elim (λ l. inl (omega arith)) (λ l. inr (omega (arith, n))) (less i k))
        ∙ field-byte s i (b i) ∙ sym (get_or-set_other s k i v 0 n)
