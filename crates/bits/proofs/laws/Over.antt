-- Fields that are laid over what stands there already. Assumes nothing.
use Prim.Native.Nat.{ℕ, ◌+◌, ◌-◌, ◌*◌, ◌<◌, ◌≤◌}
use mathlib.Core.Path.{◌≡◌, refl, ap, sym, ◌∙◌}
use mathlib.Core.List.{List, [], ◌∷◌, ◌++◌}
use mathlib.Core.Logic.{◌⊎◌, inl, inr, ⊎_elim}
use native.Mathlib.Nat.{add_assoc}
use native.Mathlib.Omega.{arith}
use lib.ListN.{length, take, drop, replicate-append-replicate}
use Rattle.model.specs.Field.{field, put_field, bit_at, Bytes, Part, lay, zeros, packed}
use Rattle.bits.proofs.laws.Put.{length-put, bits-ext}
use Rattle.bits.proofs.laws.Append.{put-left, put_right, bit-left, bit-right, bit-part, where-bit}
use Rattle.bits.proofs.laws.Lay.{total, Shows, Fit, length-packed, packed-rest, length-lay, bytes-lay, lay-in, lay-out, lay-shows}
use Rattle.bits.proofs.laws.Lay.{packed-whole, length-zeros, bytes-zeros, zeros-bit, zero-at, zero_field, part_bytes, part_length}

-- ---- in a part

pub lay-left : (a b : List ℕ) (at : ℕ) (fs : List Part) → at + total fs ≤ 8 * length a → lay (a ++ b) at fs ≡ lay a at fs ++ b
unfolding lay
lay-left a b at [] h = refl
lay-left a b at (f ∷ fs) h =
    rw (put-left a b at f.width f.value (omega arith))
    (lay-left (put_field a at f.width f.value) b (at + f.width) fs (omega (arith, length-put a at f.width f.value)))

pub lay-right : (a b : List ℕ) (at : ℕ) (fs : List Part) → lay (a ++ b) (8 * length a + at) fs ≡ a ++ lay b at fs
unfolding lay
lay-right a b at [] = refl
lay-right a b at (f ∷ fs) =
    rw (put_right a b at f.width f.value, add_assoc (8 * length a) at f.width)
    (lay-right a (put_field b at f.width f.value) (at + f.width) fs)

pub lay-append : (s : List ℕ) (at : ℕ) (fs gs : List Part) → lay s at (fs ++ gs) ≡ lay (lay s at fs) (at + total fs) gs
unfolding lay
lay-append s at [] gs = let e : at + 0 ≡ at = omega arith in rw e
lay-append s at (f ∷ fs) gs =
    rw (← add_assoc at f.width (total fs)) (lay-append (put_field s at f.width f.value) (at + f.width) fs gs)

-- ---- over other fields

-- what stood there before is gone
pub lay-twice : (s : List ℕ) (at : ℕ) (fs gs : List Part) → Bytes s → at + total gs ≤ 8 * length s → total fs ≡ total gs → Fit gs
    → lay (lay s at fs) at gs ≡ lay s at gs
lay-twice s at fs gs b h e z =
    bits-ext (lay p at gs) (lay s at gs) (bytes-lay p at gs (bytes-lay s at fs b (omega arith)) hp) (bytes-lay s at gs b h)
    (length-lay p at gs ∙ lp ∙ sym (length-lay s at gs)) λ i l. ⊎_elim (out i)
    (λ f. within i (omega (arith, f.2)) (omega (arith, f.1, f.2))) (where-bit at (total gs) i)
  where
    p : List ℕ
    p = lay s at fs

    lp : length p ≡ length s
    lp = length-lay s at fs

    hp : at + total gs ≤ 8 * length p
    hp = omega (arith, lp)

    out : (i : ℕ) → (i < at) ⊎ (at + total gs ≤ i) → bit_at (lay p at gs) i ≡ bit_at (lay s at gs) i
    out i o =
        lay-out p at gs i hp o ∙ lay-out s at fs i (omega arith) (⊎_elim (λ l. inl l) (λ l. inr (omega arith)) o)
        ∙ sym (lay-out s at gs i h o)

    within : (i : ℕ) → at ≤ i → i < at + total gs → bit_at (lay p at gs) i ≡ bit_at (lay s at gs) i
    within i l k = lay-in p (lay s at gs) at gs i hp (lay-shows s at gs h z) l k

pub relay : (n : ℕ) (fs gs : List Part) → total fs ≡ total gs → total gs ≤ 8 * n → Fit gs → lay (packed n fs) 0 gs ≡ packed n gs
unfolding packed
relay n fs gs e h z = lay-twice (zeros n) 0 fs gs (bytes-zeros n) (omega (arith, length-zeros n)) e z

-- ---- zero bytes

pub zeros-append : (a b : ℕ) → zeros a ++ zeros b ≡ zeros (a + b)
unfolding zeros
zeros-append a b = replicate-append-replicate a b 0

-- fields of zeros
abbrev pub Blank : List Part → Type 0
Blank [] = ◌≡◌ {A = ℕ} 0 0
Blank (f ∷ fs) = (f.value ≡ 0) × Blank fs

shows-blank : (n at : ℕ) (fs : List Part) → Blank fs → Shows (zeros n) at fs
shows-blank n at [] z = refl
shows-blank n at (f ∷ fs) z =
    (zero_field (zeros n) at f.width (λ i l h. zeros-bit n i) ∙ sym z.0, shows-blank n (at + f.width) fs z.1)

pub packed-zeros : (n : ℕ) (fs : List Part) → total fs ≤ 8 * n → Blank fs → packed n fs ≡ zeros n
packed-zeros n fs h z = packed-whole (zeros n) n fs (bytes-zeros n) (length-zeros n) h (shows-blank n 0 fs z) λ i l k. zeros-bit n i

-- a part whose bits are zero
pub zero-part : (s : List ℕ) (a n : ℕ) → Bytes s → a + n ≤ length s → field s (8 * a) (8 * n) ≡ 0 → take n (drop a s) ≡ zeros n
zero-part s a n b h e =
    bits-ext (take n (drop a s)) (zeros n) (part_bytes s a n b) (bytes-zeros n) (part_length s a n h ∙ sym (length-zeros n)) λ i l.
    bit-part s a n i (omega (arith, part_length s a n h))
    ∙ zero-at s (8 * a) (8 * n) e (8 * a + i) (omega arith) (omega (arith, part_length s a n h)) ∙ sym (zeros-bit n i)

-- behind a list there are zeros
pub zeros-behind : (a : List ℕ) (n at m : ℕ) → 8 * length a ≤ at → field (a ++ zeros n) at m ≡ 0
zeros-behind a n at m h =
    zero_field (a ++ zeros n) at m λ i l k.
    let e : 8 * length a + (i - 8 * length a) ≡ i = omega arith in
    ap (bit_at (a ++ zeros n)) (sym e) ∙ bit-right a (zeros n) (i - 8 * length a) ∙ zeros-bit n (i - 8 * length a)

-- bits behind packed fields, where other bytes follow
pub packed-spare : (n : ℕ) (fs : List Part) (z : List ℕ) (at m : ℕ) → total fs ≤ at → at + m ≤ 8 * n → field (packed n fs ++ z) at m ≡ 0
packed-spare n fs z at m h l =
    zero_field (packed n fs ++ z) at m λ i p q.
    bit-left (packed n fs) z i (omega (arith, length-packed n fs)) ∙ packed-rest n fs i (omega arith) (omega arith)
