-- Laws of fields laid one after the other, of zero bytes, and of parts. Assumes nothing.
use Prim.Native.Nat.{ℕ, zero, suc, ◌+◌, ◌*◌, ◌-◌, ◌/◌, ◌<◌, ◌≤◌, ◌^◌}
use mathlib.Core.Path.{◌≡◌, refl, ap, sym, ◌∙◌}
use mathlib.Core.List.{List, [], ◌∷◌, ◌++◌}
use mathlib.Core.Logic.{◌⊎◌, inl, inr, ⊎_elim}
use native.Mathlib.Omega.{arith}
use native.Mathlib.Nat.{zero-div}
use lib.ListN.{length, get_or, take, drop, replicate, length-take, length-drop, length-replicate, get_or-replicate, get_or-append}
use lib.ListN.{get_or-eq_default}
use lib.Seq.{get_or-append-add, get_or-take, get_or-drop, take-add, drop-drop}
use Rattle.model.specs.Field.{field, put_field, bit_at, Bytes, Part, lay, zeros, packed}
use Rattle.bits.proofs.laws.Laws.{field_lt, field-ext}
use Rattle.bits.proofs.laws.Put.{less, length-put, bytes-put, field-put-same, bits-ext, bit-put-out}
use Rattle.bits.proofs.laws.Append.{field-bits}

-- ---- bytes of what is put together, and of parts

pub bytes-append : (a b : List ℕ) → Bytes a → Bytes b → Bytes (a ++ b)
bytes-append a b ha hb i =
    ⊎_elim (λ l. rw (get_or-append a b 0 i l) (ha i))
    (λ l. let e : i ≡ length a + (i - length a) = omega arith in rw (e, get_or-append-add a b (i - length a) 0) (hb (i - length a)))
    (less i (length a))

pub part_bytes : (s : List ℕ) (a n : ℕ) → Bytes s → Bytes (take n (drop a s))
part_bytes s a n b i =
    ⊎_elim (λ l. rw (get_or-take n (drop a s) i 0 l, get_or-drop a s i 0) (b (a + i)))
    (λ l. let k : length (take n (drop a s)) ≤ i = omega (arith, length-take n (drop a s)) in
    omega (arith, get_or-eq_default (take n (drop a s)) 0 k)) (less i n)

pub part_length : (s : List ℕ) (a n : ℕ) → a + n ≤ length s → length (take n (drop a s)) ≡ n
part_length s a n h = simp (length-take, length-drop) (omega arith)

pub two-parts : (s : List ℕ) (a m n : ℕ) → take m (drop a s) ++ take n (drop (a + m) s) ≡ take (m + n) (drop a s)
two-parts s a m n = sym (take-add m n (drop a s) ∙ ap (λ (l : List ℕ). take m (drop a s) ++ take n l) (drop-drop m a s))

-- ---- zero bits and zero bytes

zero_bits_lem : (s : List ℕ) (at n : ℕ) → field s at n ≡ 0 → (i : ℕ) → i < n → bit_at s (at + i) ≡ 0
unfolding field
zero_bits_lem s at zero e i h = absurd (omega arith)
zero_bits_lem s at (suc n) e i h =
    ⊎_elim (λ l. zero_bits_lem s at n (omega arith) i l) (λ l. let q : i ≡ n = omega arith in rw q (omega arith)) (less i n)

pub zero-at : (s : List ℕ) (at n : ℕ) → field s at n ≡ 0 → (i : ℕ) → at ≤ i → i < at + n → bit_at s i ≡ 0
zero-at s at n e i l h = let q : at + (i - at) ≡ i = omega arith in rw q at (zero_bits_lem s at n e (i - at) (omega arith))

pub zero_field : (s : List ℕ) (at n : ℕ) → ((i : ℕ) → at ≤ i → i < at + n → bit_at s i ≡ 0) → field s at n ≡ 0
unfolding field
zero_field s at zero h = refl
zero_field s at (suc n) h = omega (arith, zero_field s at n (λ i l k. h i l (omega arith)), h (at + n) (omega arith) (omega arith))

pub zeros-at : (n i : ℕ) → get_or (zeros n) i 0 ≡ 0
unfolding zeros
zeros-at n i =
    ⊎_elim (λ l. get_or-replicate n i 0 0 l) (λ l. get_or-eq_default (replicate n 0) 0 (rw (length-replicate {A = ℕ} n 0) l)) (less i n)

pub length-zeros : (n : ℕ) → length (zeros n) ≡ n
unfolding zeros
length-zeros n = length-replicate {A = ℕ} n 0

pub bytes-zeros : (n : ℕ) → Bytes (zeros n)
bytes-zeros n i = omega (arith, zeros-at n i)

pub zeros-bit : (n i : ℕ) → bit_at (zeros n) i ≡ 0
unfolding bit_at
zeros-bit n i = rw (zeros-at n (i / 8), zero-div)

-- ---- laid

-- the bits that they take
abbrev pub total : List Part → ℕ
total [] = 0
total (f ∷ fs) = f.width + total fs

-- t has these fields from bit `at` on
abbrev pub Shows : List ℕ → ℕ → List Part → Type 0
Shows t at [] = ◌≡◌ {A = ℕ} 0 0
Shows t at (f ∷ fs) = (field t at f.width ≡ f.value) × Shows t (at + f.width) fs

-- each value fits its bits
abbrev pub Fit : List Part → Type 0
Fit [] = ◌≡◌ {A = ℕ} 0 0
Fit (f ∷ fs) = (f.value < 2 ^ f.width) × Fit fs

pub length-lay : (s : List ℕ) (at : ℕ) (fs : List Part) → length (lay s at fs) ≡ length s
unfolding lay
length-lay s at [] = refl
length-lay s at (f ∷ fs) = length-lay (put_field s at f.width f.value) (at + f.width) fs ∙ length-put s at f.width f.value

pub bytes-lay : (s : List ℕ) (at : ℕ) (fs : List Part) → Bytes s → at + total fs ≤ 8 * length s → Bytes (lay s at fs)
unfolding lay
bytes-lay s at [] b h = b
bytes-lay s at (f ∷ fs) b h =
    bytes-lay (put_field s at f.width f.value) (at + f.width) fs (bytes-put s at f.width f.value b (omega arith))
    (omega (arith, length-put s at f.width f.value))

-- bits outside are as they were
pub lay-out : (s : List ℕ) (at : ℕ) (fs : List Part) (i : ℕ) → at + total fs ≤ 8 * length s → (i < at) ⊎ (at + total fs ≤ i)
    → bit_at (lay s at fs) i ≡ bit_at s i
unfolding lay
lay-out s at [] i h o = refl
lay-out s at (f ∷ fs) i h o =
    lay-out (put_field s at f.width f.value) (at + f.width) fs i (omega (arith, length-put s at f.width f.value))
    (⊎_elim (λ l. inl (omega arith)) (λ l. inr (omega arith)) o)
    ∙ bit-put-out s at f.width f.value i (omega arith) (⊎_elim (λ l. inl l) (λ l. inr (omega arith)) o)

-- bits inside are those of any list that shows the fields
pub lay-in : (s t : List ℕ) (at : ℕ) (fs : List Part) (i : ℕ) → at + total fs ≤ 8 * length s → Shows t at fs → at ≤ i → i < at + total fs
    → bit_at (lay s at fs) i ≡ bit_at t i
unfolding lay
lay-in s t at [] i h x l k = absurd (omega arith)
lay-in s t at (f ∷ fs) i h x l k =
    let w : ℕ = f.width in
    let v : ℕ = f.value in
    let p : List ℕ = put_field s at w v in
    let lp : length p ≡ length s = length-put s at w v in
    let small : v < 2 ^ w = rw (← x.0) (field_lt t at w) in
    let e : at + (i - at) ≡ i = omega arith in
    ⊎_elim
    (λ q. lay-out p (at + w) fs i (omega arith) (inl q)
    ∙ rw e at (field-bits p t at w (field-put-same s at w v (omega arith) small ∙ sym x.0) (i - at) (omega arith)))
    (λ q. lay-in p t (at + w) fs i (omega arith) x.1 q (omega arith))
    (less i (at + w))

-- fields that fit are read back
pub lay-shows : (s : List ℕ) (at : ℕ) (fs : List Part) → at + total fs ≤ 8 * length s → Fit fs → Shows (lay s at fs) at fs
unfolding lay
lay-shows s at [] h z = refl
lay-shows s at (f ∷ fs) h z =
    let w : ℕ = f.width in
    let v : ℕ = f.value in
    let p : List ℕ = put_field s at w v in
    let lp : length p ≡ length s = length-put s at w v in (
      field-ext (lay p (at + w) fs) p at at w (λ i l. lay-out p (at + w) fs (at + i) (omega arith) (inl (omega arith)))
          ∙ field-put-same s at w v (omega arith) z.0,
      lay-shows p (at + w) fs (omega arith) z.1,
    )

-- ---- packed

pub length-packed : (n : ℕ) (fs : List Part) → length (packed n fs) ≡ n
unfolding packed
length-packed n fs = length-lay (zeros n) 0 fs ∙ length-zeros n

pub bytes_packed : (n : ℕ) (fs : List Part) → total fs ≤ 8 * n → Bytes (packed n fs)
unfolding packed
bytes_packed n fs h = bytes-lay (zeros n) 0 fs (bytes-zeros n) (omega (arith, length-zeros n))

pub packed-shows : (n : ℕ) (fs : List Part) → total fs ≤ 8 * n → Fit fs → Shows (packed n fs) 0 fs
unfolding packed
packed-shows n fs h z = lay-shows (zeros n) 0 fs (omega (arith, length-zeros n)) z

-- "Undefined bits are zero."
pub packed-rest : (n : ℕ) (fs : List Part) (i : ℕ) → total fs ≤ 8 * n → total fs ≤ i → bit_at (packed n fs) i ≡ 0
unfolding packed
packed-rest n fs i h l = lay-out (zeros n) 0 fs i (omega (arith, length-zeros n)) (inr (omega arith)) ∙ zeros-bit n i

-- bytes that show the fields, and zeros behind them, are those packed
pub packed-whole : (t : List ℕ) (n : ℕ) (fs : List Part) → Bytes t → length t ≡ n → total fs ≤ 8 * n → Shows t 0 fs
    → ((i : ℕ) → total fs ≤ i → i < 8 * n → bit_at t i ≡ 0) → packed n fs ≡ t
unfolding packed
packed-whole t n fs b len h x rest =
    let z : List ℕ = zeros n in
    let lz : length z ≡ n = length-zeros n in
    let ll : length (lay z 0 fs) ≡ n = length-lay z 0 fs ∙ lz in
    bits-ext (lay z 0 fs) t (bytes-lay z 0 fs (bytes-zeros n) (omega arith)) b (ll ∙ sym len) λ i l.
    ⊎_elim (λ q. lay-in z t 0 fs i (omega arith) x (omega arith) (omega arith))
    (λ q. lay-out z 0 fs i (omega arith) (inr (omega arith)) ∙ zeros-bit n i ∙ sym (rest i q (omega arith))) (less i (total fs))
