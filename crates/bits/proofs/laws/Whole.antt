-- Fields that are written by whole bytes. Assumes nothing.
use Prim.Native.Nat.{ℕ, zero, suc, ◌+◌, ◌*◌, ◌-◌, ◌/◌, ◌%◌, ◌^◌, ◌≤◌, ◌<◌}
use mathlib.Core.Path.{◌≡◌, ap, sym, ◌∙◌}
use mathlib.Core.List.{List}
use mathlib.Core.Logic.{inr, ⊎_elim}
use lib.ListN.{length, set}
use lib.Pow.{shr-shr, high, low, mod-mod-pow, field as field-mod}
use native.Mathlib.Nat.{add-zero, add-suc, add_assoc, div-one}
use native.Mathlib.Numerals.{add-one}
use native.Mathlib.Omega.{arith}
use Rattle.model.specs.Field.{field, put_field, Bytes}
use Rattle.bits.proofs.laws.Laws.{field_lt, field-split}
use Rattle.bits.proofs.laws.Put.{length-put, bytes-put, bit-put-out, field-put-same, field-put-other, bits-ext, put-byte-whole}
use Rattle.bits.proofs.laws.Append.{field-bits, where-bit}

-- a field of m + n bits is written as one of m and then one of n
pub put-split : (s : List ℕ) (at m n v : ℕ) → put_field s at (m + n) v ≡ put_field (put_field s at m (v / 2 ^ n)) (at + m) n (v % 2 ^ n)
unfolding put_field
put-split s at m zero v = rw (add-zero, div-one)
put-split s at m (suc n) v =
    let q : v / 2 / 2 ^ n ≡ v / 2 ^ suc n = let e : 1 + n ≡ suc n = omega arith in rw e at (shr-shr v 1 n) in
    let r : v % 2 ^ suc n / 2 ≡ v / 2 % 2 ^ n = rw (add-one n) at (field-mod v n 1) in
    let t : v % 2 ^ suc n % 2 ≡ v % 2 = rw (add-one n) at (mod-mod-pow v n 1) in
    rw (add-suc, put-split s at m n (v / 2), q, r, t, add_assoc at m n)

-- a field that is written as it stands
pub put-own : (s : List ℕ) (at n : ℕ) → Bytes s → at + n ≤ 8 * length s → put_field s at n (field s at n) ≡ s
put-own s at n b h =
    let f : ℕ = field s at n in
    bits-ext (put_field s at n f) s (bytes-put s at n f b h) b (length-put s at n f) λ i l. ⊎_elim
    (λ o. bit-put-out s at n f i h o)
    (λ w. rw (← w.2) (field-bits (put_field s at n f) s at n (field-put-same s at n f h (field_lt s at n)) w.0 w.1))
    (where-bit at n i)

-- a field is written as the middle of a longer one
pub put-middle : (s : List ℕ) (a j w t v : ℕ) → Bytes s → a + (j + w + t) ≤ 8 * length s → v < 2 ^ w → (f : ℕ) → f ≡ field s a (j + w + t)
    → put_field s a (j + w + t) ((f / 2 ^ t / 2 ^ w * 2 ^ w + v) * 2 ^ t + f % 2 ^ t) ≡ put_field s (a + j) w v
put-middle s a j w t v b h hv f e =
    let lo : f % 2 ^ t ≡ field s (a + (j + w)) t = ap (λ (x : ℕ). x % 2 ^ t) parted
    ∙ low (field s a (j + w)) t (field_lt s (a + (j + w)) t) in
    let up : f / 2 ^ t / 2 ^ w ≡ field s a j = ap (λ (x : ℕ). x / 2 ^ w)
    (ap (λ (x : ℕ). x / 2 ^ t) parted ∙ high (field s a (j + w)) t (field_lt s (a + (j + w)) t) ∙ field-split s a j w)
    ∙ high (field s a j) w (field_lt s (a + j) w) in
    rw (
      lo,
      up,
      put-split s a (j + w) t ((field s a j * 2 ^ w + v) * 2 ^ t + field s (a + (j + w)) t),
      high (field s a j * 2 ^ w + v) t (field_lt s (a + (j + w)) t),
      low (field s a j * 2 ^ w + v) t (field_lt s (a + (j + w)) t),
      put-split s a j w (field s a j * 2 ^ w + v),
      high (field s a j) w hv,
      low (field s a j) w hv,
      put-own s a j b (omega arith),
    )
    behind
  where
    parted : f ≡ field s a (j + w) * 2 ^ t + field s (a + (j + w)) t
    parted = e ∙ field-split s a (j + w) t

    p : List ℕ
    p = put_field s (a + j) w v

    behind : put_field p (a + (j + w)) t (field s (a + (j + w)) t) ≡ p
    behind =
        ap (put_field p (a + (j + w)) t) (sym (field-put-other s (a + j) w v (a + (j + w)) t (omega arith) (inr (omega arith))))
        ∙ put-own p (a + (j + w)) t (bytes-put s (a + j) w v b (omega arith)) (omega (arith, length-put s (a + j) w v))

-- the field is written as the middle of the whole bytes that it touches
pub put_whole : (s : List ℕ) (at w n spare v : ℕ) → Bytes s → 8 * n ≡ at % 8 + w + spare → 8 * (at / 8) + 8 * n ≤ 8 * length s → v < 2 ^ w
    → (f : ℕ) → f ≡ field s (8 * (at / 8)) (8 * n)
    → put_field s (8 * (at / 8)) (8 * n) ((f / 2 ^ spare / 2 ^ w * 2 ^ w + v) * 2 ^ spare + f % 2 ^ spare) ≡ put_field s at w v
put_whole s at w n spare v b e h hv f q =
    let g : 8 * (at / 8) + at % 8 ≡ at = omega arith in
    rw e (rw g at (put-middle s (8 * (at / 8)) (at % 8) w spare v b (omega arith) hv f (rw e at q)))

-- a number is written byte by byte, from its first byte on
pub put-more-byte : (s : List ℕ) (k i n v : ℕ) → Bytes s → i < n → k + n ≤ length s
    → set (put_field s (8 * k) (8 * i) (v / 2 ^ (8 * (n - i)))) (k + i) (v / 2 ^ (8 * (n - 1 - i)) % 256)
    ≡ put_field s (8 * k) (8 * (i + 1)) (v / 2 ^ (8 * (n - (i + 1))))
put-more-byte s k i n v b l h =
    let y : ℕ = v / 2 ^ (8 * (n - 1 - i)) in
    let p : List ℕ = put_field s (8 * k) (8 * i) (y / 2 ^ 8) in
    let a : 8 * (n - i) ≡ 8 * (n - 1 - i) + 8 = omega arith in
    let c : n - (i + 1) ≡ n - 1 - i = omega arith in
    let d : 8 * (i + 1) ≡ 8 * i + 8 = omega arith in
    let e : 8 * k + 8 * i ≡ 8 * (k + i) = omega arith in
    rw (a, c, d, ← shr-shr v (8 * (n - 1 - i)) 8, put-split s (8 * k) (8 * i) 8 y, e)
    (sym (put-byte-whole p (k + i) (y % 256) (bytes-put s (8 * k) (8 * i) (y / 2 ^ 8) b (omega arith))
    (omega (arith, length-put s (8 * k) (8 * i) (y / 2 ^ 8))) (omega arith)))
