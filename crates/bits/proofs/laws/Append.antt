-- Fields of lists that are put together, and of parts. Assumes nothing.
use Prim.Native.Nat.{ℕ, zero, suc, ◌+◌, ◌*◌, ◌-◌, ◌/◌, ◌%◌, ◌^◌, ◌≤◌, ◌<◌}
use mathlib.Core.Path.{◌≡◌, refl, ap, sym, ◌∙◌}
use mathlib.Core.List.{List, [], ◌∷◌, ◌++◌}
use mathlib.Core.Logic.{◌⊎◌, inl, inr, ⊎_elim}
use lib.ListN.{length, get_or, take, drop, set, get_or-append}
use lib.Seq.{get_or-append-add, set-append_left, get_or-take, get_or-drop}
use native.Mathlib.Nat.{add_assoc, suc-add}
use native.Mathlib.Omega.{arith}
use Rattle.model.specs.Field.{field, bit_at, put_bit, set_bit, put_field, Bytes}
use Rattle.bits.proofs.laws.Laws.{field-ext, bit-lt}
use Rattle.bits.proofs.laws.Put.{less, length-put, bytes-put, bit-put-out, field-put-same, bits-ext}

pub set-append-add : (xs ys : List ℕ) (n v : ℕ) → set (xs ++ ys) (length xs + n) v ≡ xs ++ set ys n v
set-append-add [] ys n v = let e : 0 + n ≡ n = omega arith in rw e
set-append-add (x ∷ xs) ys n v = rw suc-add (ap (λ (l : List ℕ). x ∷ l) (set-append-add xs ys n v))

-- ---- bits

pub bit-right : (a b : List ℕ) (k : ℕ) → bit_at (a ++ b) (8 * length a + k) ≡ bit_at b k
unfolding bit_at
bit-right a b k =
    let q : (8 * length a + k) / 8 ≡ length a + k / 8 = omega arith in
    let r : (8 * length a + k) % 8 ≡ k % 8 = omega arith in
    rw (q, r, get_or-append-add a b (k / 8) 0)

pub bit-left : (a b : List ℕ) (k : ℕ) → k < 8 * length a → bit_at (a ++ b) k ≡ bit_at a k
unfolding bit_at
bit-left a b k h = rw (get_or-append a b 0 (k / 8) (omega arith))

pub bit-part : (s : List ℕ) (a m k : ℕ) → k < 8 * m → bit_at (take m (drop a s)) k ≡ bit_at s (8 * a + k)
unfolding bit_at
bit-part s a m k h =
    let q : (8 * a + k) / 8 ≡ a + k / 8 = omega arith in
    let r : (8 * a + k) % 8 ≡ k % 8 = omega arith in
    rw (q, r, get_or-take m (drop a s) (k / 8) 0 (omega arith), get_or-drop a s (k / 8) 0)

-- ---- fields that are read

pub field-right : (a b : List ℕ) (at n : ℕ) → field (a ++ b) (8 * length a + at) n ≡ field b at n
field-right a b at n = field-ext (a ++ b) b (8 * length a + at) at n λ i l. rw (add_assoc (8 * length a) at i) (bit-right a b (at + i))

pub field-left : (a b : List ℕ) (at n : ℕ) → at + n ≤ 8 * length a → field (a ++ b) at n ≡ field a at n
field-left a b at n h = field-ext (a ++ b) a at at n λ i l. bit-left a b (at + i) (omega arith)

-- a field of a part is one of the whole
pub field-part : (s : List ℕ) (a m at n : ℕ) → at + n ≤ 8 * m → field (take m (drop a s)) at n ≡ field s (8 * a + at) n
field-part s a m at n h =
    field-ext (take m (drop a s)) s at (8 * a + at) n λ i l. rw (add_assoc (8 * a) at i) (bit-part s a m (at + i) (omega arith))

-- the bits of equal fields
pub field-bits : (s t : List ℕ) (a n : ℕ) → field s a n ≡ field t a n → (i : ℕ) → i < n → bit_at s (a + i) ≡ bit_at t (a + i)
unfolding field
field-bits s t a zero e i h = absurd (omega arith)
field-bits s t a (suc n) e i h =
    let f : field s a n ≡ field t a n = omega (arith, bit-lt s (a + n), bit-lt t (a + n)) in
    let g : bit_at s (a + n) ≡ bit_at t (a + n) = omega arith in
    ⊎_elim (λ l. field-bits s t a n f i l) (λ l. let k : i ≡ n = omega arith in rw k g) (less i n)

-- ---- fields that are written

pub put_right : (a b : List ℕ) (at n v : ℕ) → put_field (a ++ b) (8 * length a + at) n v ≡ a ++ put_field b at n v
unfolding put_field set_bit
put_right a b at zero v = refl
put_right a b at (suc n) v =
    let c : List ℕ = put_field b at n (v / 2) in
    let q : (8 * length a + at + n) / 8 ≡ length a + (at + n) / 8 = omega arith in
    let r : (8 * length a + at + n) % 8 ≡ (at + n) % 8 = omega arith in
    rw (put_right a b at n (v / 2), q, r, get_or-append-add a c ((at + n) / 8) 0)
    (set-append-add a c ((at + n) / 8) (put_bit (get_or c ((at + n) / 8) 0) ((at + n) % 8) (v % 2)))

pub put-left : (a b : List ℕ) (at n v : ℕ) → at + n ≤ 8 * length a → put_field (a ++ b) at n v ≡ put_field a at n v ++ b
unfolding put_field set_bit
put-left a b at zero v h = refl
put-left a b at (suc n) v h =
    let c : List ℕ = put_field a at n (v / 2) in
    let l : (at + n) / 8 < length c = omega (arith, length-put a at n (v / 2)) in
    rw (put-left a b at n (v / 2) (omega arith), get_or-append c b 0 ((at + n) / 8) l)
    (set-append_left c b ((at + n) / 8) (put_bit (get_or c ((at + n) / 8) 0) ((at + n) % 8) (v % 2)) l)

-- ---- fields that are written twice, or in another order

-- the bits that are written hang on the number alone
pub bit-put-in : (s t : List ℕ) (at n v i : ℕ) → at + n ≤ 8 * length s → at + n ≤ 8 * length t → v < 2 ^ n → i < n
    → bit_at (put_field s at n v) (at + i) ≡ bit_at (put_field t at n v) (at + i)
bit-put-in s t at n v i hs ht hv l =
    field-bits (put_field s at n v) (put_field t at n v) at n (field-put-same s at n v hs hv ∙ sym (field-put-same t at n v ht hv)) i l

-- where a bit stands: before a field, in it, behind it
pub where-bit : (at n i : ℕ) → ((i < at) ⊎ (at + n ≤ i)) ⊎ ((j : ℕ) × (j < n) × (at + j ≡ i))
where-bit at n i =
    ⊎_elim (λ l. inl (inl l)) (λ l. ⊎_elim (λ k. inr (i - at, omega arith, omega arith)) (λ k. inl (inr k)) (less i (at + n))) (less i at)

pub put-over : (s : List ℕ) (at n v w : ℕ) → Bytes s → at + n ≤ 8 * length s → w < 2 ^ n
    → put_field (put_field s at n v) at n w ≡ put_field s at n w
put-over s at n v w b h hw =
    bits-ext (put_field p at n w) (put_field s at n w) (bytes-put p at n w (bytes-put s at n v b h) hp) (bytes-put s at n w b h)
    (length-put p at n w ∙ lp ∙ sym (length-put s at n w)) λ i l. ⊎_elim (out i) (here i) (where-bit at n i)
  where
    p : List ℕ
    p = put_field s at n v

    lp : length p ≡ length s
    lp = length-put s at n v

    hp : at + n ≤ 8 * length p
    hp = omega (arith, lp)

    out : (i : ℕ) → (i < at) ⊎ (at + n ≤ i) → bit_at (put_field p at n w) i ≡ bit_at (put_field s at n w) i
    out i o = bit-put-out p at n w i hp o ∙ bit-put-out s at n v i h o ∙ sym (bit-put-out s at n w i h o)

    here : (i : ℕ) → (j : ℕ) × (j < n) × (at + j ≡ i) → bit_at (put_field p at n w) i ≡ bit_at (put_field s at n w) i
    here i f = rw (← f.2) (bit-put-in p s at n w f.0 hp h hw f.1)

pub put-comm : (s : List ℕ) (a m x b n y : ℕ) → Bytes s → a + m ≤ 8 * length s → b + n ≤ 8 * length s → x < 2 ^ m → y < 2 ^ n
    → (a + m ≤ b) ⊎ (b + n ≤ a) → put_field (put_field s a m x) b n y ≡ put_field (put_field s b n y) a m x
put-comm s a m x b n y bs ha hb hx hy o =
    bits-ext (put_field p b n y) (put_field q a m x) (bytes-put p b n y (bytes-put s a m x bs ha) hp)
    (bytes-put q a m x (bytes-put s b n y bs hb) hq)
    (length-put p b n y ∙ lp ∙ sym (length-put q a m x ∙ lq)) λ i l. ⊎_elim (λ oa. ⊎_elim (none i oa) (in_b i oa) (where-bit b n i))
    (in-a i) (where-bit a m i)
  where
    p : List ℕ
    p = put_field s a m x

    q : List ℕ
    q = put_field s b n y

    lp : length p ≡ length s
    lp = length-put s a m x

    lq : length q ≡ length s
    lq = length-put s b n y

    hp : b + n ≤ 8 * length p
    hp = omega (arith, lp)

    hq : a + m ≤ 8 * length q
    hq = omega (arith, lq)

    none : (i : ℕ) → (i < a) ⊎ (a + m ≤ i) → (i < b) ⊎ (b + n ≤ i) → bit_at (put_field p b n y) i ≡ bit_at (put_field q a m x) i
    none i oa ob =
        bit-put-out p b n y i hp ob ∙ bit-put-out s a m x i ha oa ∙ sym (bit-put-out q a m x i hq oa ∙ bit-put-out s b n y i hb ob)

    in_b : (i : ℕ) → (i < a) ⊎ (a + m ≤ i) → (j : ℕ) × (j < n) × (b + j ≡ i) → bit_at (put_field p b n y) i ≡ bit_at (put_field q a m x) i
    in_b i oa f = rw f.2 at (bit-put-in p s b n y f.0 hp hb hy f.1) ∙ sym (bit-put-out q a m x i hq oa)

    in-a : (i : ℕ) → (j : ℕ) × (j < m) × (a + j ≡ i) → bit_at (put_field p b n y) i ≡ bit_at (put_field q a m x) i
    in-a i f =
        let l : f.0 < m = f.1 in let e : a + f.0 ≡ i = f.2 in
        bit-put-out p b n y i hp (⊎_elim (λ k. inl (omega arith)) (λ k. inr (omega arith)) o)
        ∙ rw f.2 at (bit-put-in s q a m x f.0 ha hq hx f.1)

-- two lists of bytes of one length all of whose fields agree are equal
pub fields-ext : (s t : List ℕ) → Bytes s → Bytes t → length s ≡ length t
    → ((at n : ℕ) → at + n ≤ 8 * length s → field s at n ≡ field t at n) → s ≡ t
fields-ext s t bs bt e h =
    bits-ext s t bs bt e λ i l. let g : i + 0 ≡ i = omega arith in rw g at (field-bits s t i 1 (h i 1 (omega arith)) 0 (omega arith))
