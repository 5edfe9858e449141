-- Laws about store/specs/Slots. Assumes nothing.
use Prim.Native.Nat.{ℕ, zero, suc, ◌+◌, ◌*◌, ◌-◌, ◌<◌, ◌≤◌}
use mathlib.Core.Path.{◌≡◌, refl, ap, sym, ◌∙◌}
use mathlib.Core.List.{List, [], ◌∷◌, ◌++◌, append_assoc}
use native.Mathlib.Omega.{arith}
use lib.ListN.{length, get_or, set, take, drop, replicate, length-append, length-replicate, get_or-append}
use Rattle.bits.proofs.laws.Append.{field-part}
use Rattle.bits.proofs.laws.Lay.{Shows, length-packed, packed-shows, packed-whole, part_bytes, part_length, two-parts}
use Rattle.bits.proofs.laws.Over.{relay, packed-zeros, zeros-append}
use Rattle.bits.proofs.laws.Rows.{Even, rows-length, row_field, row-lay}
use Rattle.model.specs.declared.Slot.{Slot}
use Rattle.model.specs.Basic.{flat_map}
use Rattle.model.specs.Field.{field, Bytes, lay, zeros, packed}
use Rattle.model.specs.Layout.{slot_bytes, read_slot, read_slots, slots_bytes, no_slot}
use Rattle.store.proofs.laws.Read.{version-lt, root-lt}
use Rattle.store.specs.Slots.{slot_parts, SlotFits}

pub slot-fits : (s : List ℕ) (o : ℕ) → SlotFits (read_slot s o)
slot-fits s o = record { version = version-lt s o; root = root-lt s o }

pub none-fits : SlotFits no_slot
none-fits = record { version = omega arith; root = omega arith }

pub slots-fit : (s : List ℕ) (o n k : ℕ) → SlotFits (get_or (read_slots s o n) k no_slot)
unfolding read_slots
slots-fit s o zero k = none-fits
slots-fit s o (suc n) zero = slot-fits s o
slots-fit s o (suc n) (suc k) = slots-fit s (o + 32) n k

-- ---- one slot

pub slot-length : (x : Slot) → length (slot_bytes x) ≡ 4
unfolding slot_bytes
slot-length x = length-packed 4 (slot_parts x)

slot-over : (x y : Slot) → SlotFits y → lay (slot_bytes x) 0 (slot_parts y) ≡ slot_bytes y
unfolding slot_bytes
slot-over x y z = relay 4 (slot_parts x) (slot_parts y) refl (omega arith) (z.version, (z.root, refl))

slot_read : (x : Slot) → SlotFits x → read_slot (slot_bytes x) 0 ≡ x
unfolding slot_bytes read_slot
slot_read x z =
    let h : Shows (packed 4 (slot_parts x)) 0 (slot_parts x) = packed-shows 4 (slot_parts x) (omega arith) (z.version, (z.root, refl)) in
    λ i. record { version = h.0 i; root = h.1.0 i }

none-bytes : slot_bytes no_slot ≡ zeros 4
unfolding slot_bytes
none-bytes = packed-zeros 4 (slot_parts no_slot) (omega arith) (refl, (refl, refl))

-- ---- slots one after the other

slots-rows : (l : List Slot) → slots_bytes l ≡ flat_map slot_bytes l
unfolding slots_bytes
slots-rows [] = refl
slots-rows (x ∷ l) = ap (λ (y : List ℕ). slot_bytes x ++ y) (slots-rows l)

pub slots_length : (l : List Slot) → length (slots_bytes l) ≡ 4 * length l
slots_length l = rw (slots-rows l) (rows-length slot_bytes no_slot 4 l (λ i. slot-length (get_or l i no_slot)) ∙ omega arith)

slots-append : (a b : List Slot) → slots_bytes (a ++ b) ≡ slots_bytes a ++ slots_bytes b
unfolding slots_bytes
slots-append [] b = refl
slots-append (x ∷ a) b = rw (slots-append a b) (sym (append_assoc (slot_bytes x) (slots_bytes a) (slots_bytes b)))

none-zeros : (n : ℕ) → slots_bytes (replicate n no_slot) ≡ zeros (4 * n)
unfolding slots_bytes zeros
none-zeros zero = refl
none-zeros (suc n) = let e : 4 * suc n ≡ 4 + 4 * n = omega arith in rw (e, none-bytes, none-zeros n) (zeros-append 4 (4 * n))

-- ---- slot i behind bytes h, with z behind all

module _ (h z : List ℕ) (l : List Slot) (i : ℕ) (lt : i < length l) where
  even : Even slot_bytes no_slot 4 l
  even k = slot-length (get_or l k no_slot)

  pub slot-put : (x : Slot) → SlotFits x → lay (h ++ (slots_bytes l ++ z)) (8 * length h + 32 * i) (slot_parts x)
      ≡ h ++ (slots_bytes (set l i x) ++ z)
  slot-put x f =
      let o : 8 * length h + 32 * i ≡ 8 * (length h + i * 4) = omega arith in
      rw (o, slots-rows l, slots-rows (set l i x))
      (row-lay slot_bytes no_slot 4 h z l i lt even (slot_parts x) x (omega arith) (slot-over (get_or l i no_slot) x f))

  field_at : (a n : ℕ) → a + n ≤ 32 → field (h ++ (slots_bytes l ++ z)) (8 * length h + 32 * i + a) n
      ≡ field (slot_bytes (get_or l i no_slot)) a n
  field_at a n le =
      let o : 8 * length h + 32 * i + a ≡ 8 * (length h + i * 4) + a = omega arith in
      rw (o, slots-rows l) (row_field slot_bytes no_slot 4 h z l i lt even a n (omega arith))

  pub slot-get : SlotFits (get_or l i no_slot) → read_slot (h ++ (slots_bytes l ++ z)) (8 * length h + 32 * i) ≡ get_or l i no_slot
  unfolding read_slot
  slot-get f =
      let o : 8 * length h + 32 * i ≡ 8 * length h + 32 * i + 0 = omega arith in
      let e : read_slot (slot_bytes (get_or l i no_slot)) 0 ≡ get_or l i no_slot = slot_read (get_or l i no_slot) f in
      let k : field (h ++ (slots_bytes l ++ z)) (8 * length h + 32 * i) 20 ≡ field (slot_bytes (get_or l i no_slot)) 0 20
      = rw o (field_at 0 20 (omega arith)) in
      rw (k, field_at 20 12 (omega arith)) e

-- ---- what is read is what stands there

slot-part : (s : List ℕ) (a : ℕ) → Bytes s → a + 4 ≤ length s → slot_bytes (read_slot s (8 * a)) ≡ take 4 (drop a s)
unfolding slot_bytes read_slot
slot-part s a b h =
    let e : 8 * a + 0 ≡ 8 * a = omega arith in
    packed-whole (take 4 (drop a s)) 4 (slot_parts (read_slot s (8 * a))) (part_bytes s a 4 b) (part_length s a 4 h) (omega arith)
    (field-part s a 4 0 20 (omega arith) ∙ ap (λ (x : ℕ). field s x 20) e, (field-part s a 4 20 12 (omega arith), refl))
    (λ i l k. absurd (omega arith))

pub slots-part : (s : List ℕ) (a n : ℕ) → Bytes s → a + 4 * n ≤ length s → slots_bytes (read_slots s (8 * a) n) ≡ take (4 * n) (drop a s)
unfolding slots_bytes read_slots
slots-part s a zero b h = refl
slots-part s a (suc n) b h =
    let e : 8 * a + 32 ≡ 8 * (a + 4) = omega arith in
    let f : 4 * suc n ≡ 4 + 4 * n = omega arith in
    rw (e, slot-part s a b (omega arith), slots-part s (a + 4) n b (omega arith), f) (two-parts s a 4 (4 * n))

-- ---- the directory: slots in use, unused ones behind them

unfoldable pub directory : ℕ → List Slot → List Slot
directory least xs = xs ++ replicate (64 * least - length xs) no_slot

pub directory-length : (least : ℕ) (xs : List Slot) → length xs ≤ 64 * least → length (directory least xs) ≡ 64 * least
unfolding directory
directory-length least xs h = simp (length-append, length-replicate) (omega arith)

pub directory-bytes : (least : ℕ) (xs : List Slot) → slots_bytes (directory least xs) ≡ slots_bytes xs ++ zeros (4 * (64 * least - length xs))
unfolding directory
directory-bytes least xs =
    slots-append xs (replicate (64 * least - length xs) no_slot)
    ∙ ap (λ (y : List ℕ). slots_bytes xs ++ y) (none-zeros (64 * least - length xs))

pub directory-low : (least : ℕ) (xs : List Slot) (k : ℕ) → k < length xs → get_or (directory least xs) k no_slot ≡ get_or xs k no_slot
unfolding directory
directory-low least xs k h = get_or-append xs (replicate (64 * least - length xs) no_slot) no_slot k h
