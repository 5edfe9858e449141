-- Laws about root/specs/Slotted. Assumes nothing.
use Prim.Native.Nat.{ℕ, suc, ◌+◌, ◌*◌, ◌-◌, ◌^◌, ◌<◌}
use mathlib.Core.Path.{◌≡◌, ap, sym, ◌∙◌, subst}
use mathlib.Core.Bool.{true, false}
use mathlib.Core.List.{List, [], ◌∷◌, ◌++◌}
use native.Mathlib.Omega.{arith}
use lib.Dec.{leb, ltb, eqb}
use lib.ListN.{length, get_or, length-append}
use Rattle.model.specs.declared.Limits.{Limits}
use Rattle.model.specs.declared.Slot.{Slot}
use Rattle.model.specs.declared.Header.{Header}
use Rattle.model.specs.Limits.{Edition}
use Rattle.model.specs.Basic.{all, in_order}
use Rattle.model.specs.Page.{Page}
use Rattle.model.specs.Store.{Store, next, last_of}
use Rattle.model.specs.Field.{lay}
use Rattle.model.specs.Header.{with_roots}
use Rattle.model.specs.Layout.{no_slot, header_of, read_header, read_slot, encode, decode}
use Rattle.model.specs.Judged.{is_sound}
use Rattle.model.specs.Climb.{put_slot}
use Rattle.model.specs.Needs.{has_slot}
use Rattle.model.proofs.needs.OpenSlot.{last-slot, put-new, put-over}
use Rattle.model.proofs.sound.ByRule.{some-slot}
use Rattle.store.specs.Slots.{SlotFits, slot_parts}
use Rattle.store.specs.Header.{put_header}
use Rattle.store.proofs.laws.Holds.{slot-encoded}
use Rattle.store.specs.Set.{with_slots}
use Rattle.store.proofs.laws.Set.{slot-set, slot-add}
use Rattle.store.proofs.laws.Sure.{sure}
use Rattle.parts.specs.Kept.{ExactBytes, Inside}
use Rattle.parts.proofs.laws.Kept.{header_is}
use Rattle.parts.specs.Becomes.{Becomes}
use Rattle.parts.proofs.laws.Becomes.{shows}
use Rattle.root.specs.Slotted.{slots_of, Slotted}

-- a sound store whose update is open
pub slotted-sound : {l : Limits} → Edition l → (b : List ℕ) → is_sound l.least b ≡ true → (decode l.least b).opened ≡ true → Slotted l b
slotted-sound {l} d b h o =
    let e : last_of (decode l.least b).opened (decode l.least b).current ≡ next (decode l.least b) = rw o in
    let z = sure d b h in
    record {
      some = some-slot (decode l.least b).oldest (slots_of l b) z.begins;
      rises = z.rises;
      upto = rw e at z.upto;
      low = omega (arith, z.last-low);
    }

-- pages that change leave the slots as they are
pub slotted-after : {l : Limits} {b b' : List ℕ} {ps : List Page} → ExactBytes l b → Becomes l b b' ps → Slotted l b → Slotted l b'
slotted-after k d z =
    let e = sym (shows k d) in
    record {
      some = subst (λ (s : Store). 0 < length s.slots) e z.some;
      rises = subst (λ (s : Store). in_order (λ (x y : Slot). ltb x.version y.version) s.slots ≡ true) e z.rises;
      upto = subst (λ (s : Store). all (λ (x : Slot). leb x.version (next s)) s.slots ≡ true) e z.upto;
      low = subst (λ (s : Store). next s < 2 ^ 20) e z.low;
    }

-- ---- in the bytes

module _ {l : Limits} {b : List ℕ} (k : ExactBytes l b) where
  pub roots-are : (read_header l.least b).roots ≡ length (slots_of l b)
  roots-are = ap (λ (h : Header). h.roots) (header_is k)

  pub next-is : (read_header l.least b).current + 1 ≡ next (decode l.least b)
  next-is = omega (arith, ap (λ (h : Header). h.current) (header_is k))

  slot_is : (i : ℕ) → i < length (slots_of l b) → read_slot b (512 * l.least + 32 * i) ≡ get_or (slots_of l b) i no_slot
  slot_is i h =
      ap (λ (x : List ℕ). read_slot x (512 * l.least + 32 * i)) (sym k.same)
      ∙ slot-encoded l.least k.edition.four k.edition.eight (decode l.least b) k.holds i h

module _ {l : Limits} {b : List ℕ} (k : ExactBytes l b) (z : Slotted l b) where
  last-place : length (slots_of l b) ≡ suc (length (slots_of l b) - 1)
  last-place = omega (arith, z.some)

  -- the last slot says whether the open version has one
  pub has-slot-is : eqb (read_slot b (512 * l.least + 32 * (length (slots_of l b) - 1))).version (next (decode l.least b))
      ≡ has_slot (decode l.least b)
  has-slot-is =
      rw (slot_is k (length (slots_of l b) - 1) (omega (arith, z.some)))
      (sym (last-slot (next (decode l.least b)) (length (slots_of l b) - 1) (slots_of l b) last-place z.rises z.upto))

  module _ (n : ℕ) (i : Inside l b n) where
    abbrev new : Slot
    new = record { version = next (decode l.least b); root = n }

    new-fits : SlotFits new
    new-fits = record { version = z.low; root = omega (arith, i.high, k.most) }

    -- it is replaced
    pub replaced : has_slot (decode l.least b) ≡ true
        → lay b (512 * l.least + 32 * (length (slots_of l b) - 1)) (slot_parts new)
        ≡ encode l.least (with_slots (decode l.least b) (put_slot (next (decode l.least b)) n (slots_of l b)))
    replaced h =
        ap (λ (x : List ℕ). lay x (512 * l.least + 32 * (length (slots_of l b) - 1)) (slot_parts new)) (sym k.same)
        ∙ slot-set l.least k.edition.four k.edition.eight (decode l.least b) k.holds (length (slots_of l b) - 1) new
        (omega (arith, z.some)) new-fits
        ∙ ap (λ (xs : List Slot). encode l.least (with_slots (decode l.least b) xs))
        (sym (put-over (next (decode l.least b)) n (length (slots_of l b) - 1) (slots_of l b) last-place z.rises z.upto h))

    -- or taken behind the others
    pub added : has_slot (decode l.least b) ≡ false → length (slots_of l b) < 64 * l.least
        → put_header l.least (lay b (512 * l.least + 32 * length (slots_of l b)) (slot_parts new))
        (with_roots (read_header l.least b) (length (slots_of l b) + 1))
        ≡ encode l.least (with_slots (decode l.least b) (put_slot (next (decode l.least b)) n (slots_of l b)))
    added h lt =
        let s : Store = decode l.least b in
        let c : List ℕ = lay b (512 * l.least + 32 * length (slots_of l b)) (slot_parts new) in
        let count : length s.slots + 1 ≡ length (s.slots ++ new ∷ []) = sym (length-append s.slots (new ∷ [])) in
        let head : with_roots (read_header l.least b) (length s.slots + 1) ≡ header_of (with_slots s (s.slots ++ new ∷ []))
        = ap (λ (x : Header). with_roots x (length s.slots + 1)) (header_is k) ∙ ap (with_roots (header_of s)) count in
        ap (put_header l.least c) head
        ∙ ap (λ (x : List ℕ). put_header l.least (lay x (512 * l.least + 32 * length s.slots) (slot_parts new))
        (header_of (with_slots s (s.slots ++ new ∷ [])))) (sym k.same)
        ∙ slot-add l.least k.edition.four k.edition.eight s k.holds new lt new-fits
        ∙ ap (λ (xs : List Slot). encode l.least (with_slots s xs)) (sym (put-new (next s) n s.slots h))
