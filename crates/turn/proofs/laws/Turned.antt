-- Laws about turn/specs/Turned. Assumes nothing.
use Prim.Native.Nat.{ℕ, ◌+◌, ◌*◌, ◌^◌, ◌≤◌, ◌<◌}
use native.Mathlib.Omega.{arith}
use mathlib.Core.Bool.{Bool, true, false}
use mathlib.Core.Path.{◌≡◌, ap, sym, ◌∙◌}
use mathlib.Core.List.{List, [], ◌∷◌, ◌++◌}
use lib.ListN.{length, set, drop, length-append}
use Rattle.model.specs.declared.Slot.{Slot}
use Rattle.model.specs.declared.Header.{Header}
use Rattle.model.specs.declared.Limits.{Limits}
use Rattle.model.specs.Limits.{Edition}
use Rattle.model.specs.Store.{Store, next}
use Rattle.model.specs.Field.{lay, Bytes}
use Rattle.model.specs.Layout.{no_slot, header_of, read_header, size_of, encode, decode}
use Rattle.model.specs.Header.{with_flag, with_version}
use Rattle.model.specs.Judged.{is_sound}
use Rattle.model.specs.Calls.{committed}
use Rattle.model.proofs.sound.ByRule.{upto-last}
use Rattle.page.proofs.laws.Editions.{root-bits}
use Rattle.store.proofs.laws.Read.{current-of}
use Rattle.store.proofs.laws.Exactly.{header_of_lem}
use Rattle.store.proofs.laws.Sure.{sure, exact, held, same_bytes}
use Rattle.store.specs.Slots.{slot_parts}
use Rattle.store.proofs.laws.Slots.{none-fits, directory, directory-length}
use Rattle.store.specs.Header.{HeaderFits, put_header}
use Rattle.store.specs.Holds.{Holds}
use Rattle.store.proofs.laws.Holds.{header-holds}
use Rattle.store.proofs.laws.Inside.{bytes_of, encode-of, header-in, slot-in, directory-drop}
use Rattle.store.specs.Set.{with_slots, with_state}
use Rattle.store.proofs.laws.Set.{state-set}
use Rattle.turn.specs.Turned.{begun, HeadedBytes}

module _ (least : ℕ) (four : 4 ≤ least) (eight : least ≤ 8) (b : List ℕ) (k : HeadedBytes least b) where
  turned : (c : ℕ) (o : Bool) → c < 2 ^ 20 → put_header least b (with_flag (with_version (header_of (decode least b)) c) o)
      ≡ encode least (with_state (decode least b) c o)
  turned c o low =
      ap (λ (x : List ℕ). put_header least x (header_of (with_state (decode least b) c o))) (sym k.same)
      ∙ state-set least four eight (decode least b) k.holds c o low

  pub begun-bytes : put_header least b (with_flag (read_header least b) true) ≡ encode least (begun (decode least b))
  begun-bytes =
      ap (λ (h : Header). put_header least b (with_flag h true)) (sym k.header) ∙ turned (decode least b).current true k.holds.current

  pub committed-bytes : (read_header least b).current + 1 < 2 ^ 20
      → put_header least b (with_flag (with_version (read_header least b) ((read_header least b).current + 1)) false)
      ≡ encode least (committed (decode least b))
  committed-bytes low =
      let e : (decode least b).current ≡ (read_header least b).current = ap (λ (h : Header). h.current) k.header in
      let f : (read_header least b).current + 1 ≡ next (decode least b) = omega (arith, e) in
      ap (λ (h : Header). put_header least b (with_flag (with_version h ((read_header least b).current + 1)) false)) (sym k.header)
      ∙ ap (λ (n : ℕ). put_header least b (with_flag (with_version (header_of (decode least b)) n) false)) f
      ∙ turned (next (decode least b)) false (omega (arith, e))

-- the last slot gone, and the flag
pub dropped : (least : ℕ) → 4 ≤ least → least ≤ 8 → (s : Store) → Holds least s → (xs : List Slot) (x : Slot) → s.slots ≡ xs ++ x ∷ []
    → let t = with_state (with_slots s xs) s.current false in
    put_header least (lay (encode least s) (512 * least + 32 * length xs) (slot_parts no_slot)) (header_of t) ≡ encode least t
dropped least four eight s v xs x e =
    let t : Store = with_state (with_slots s xs) s.current false in
    let g : HeaderFits least (header_of s) = header-holds least four eight s v in
    let n : length s.slots ≡ length xs + 1 = ap (λ (ys : List Slot). length ys) e ∙ length-append xs (x ∷ []) in
    let low : length xs < 64 * least = omega (arith, v.few) in
    let full : length (directory least s.slots) ≡ 64 * least = directory-length least s.slots v.few in
    ap (λ (b : List ℕ). put_header least (lay b (512 * least + 32 * length xs) (slot_parts no_slot)) (header_of t)) (encode-of least s)
    ∙ ap (λ (b : List ℕ). put_header least b (header_of t))
    (slot-in least four eight (header_of s) (directory least s.slots) (drop 5 s.pages) (length xs) no_slot (omega arith) none-fits)
    ∙ header-in least four eight (header_of s) (set (directory least s.slots) (length xs) no_slot) (drop 5 s.pages) (header_of t)
    (record { pages = g.pages; current = g.current; roots = omega (arith, root-bits least eight); oldest = g.oldest })
    ∙ ap (λ (ys : List Slot). bytes_of least (header_of t) ys (drop 5 s.pages))
    (ap (λ (ys : List Slot). set (directory least ys) (length xs) no_slot) e ∙ directory-drop least xs x low)
    ∙ sym (encode-of least t)

-- ---- a sound store's bytes

module _ {l : Limits} (d : Edition l) (b : List ℕ) (h : is_sound l.least b ≡ true) where
  pub kept : Bytes b → HeadedBytes l.least b
  kept y =
      record {
        same = same_bytes d b h y;
        holds = held d b h y;
        header = header_of_lem l.least d.four d.eight b (size_of l.least b) (exact d b h y);
      }

  pub next_low : (read_header l.least b).current + 1 < 2 ^ 20
  next_low =
      let s : Store = decode l.least b in
      omega (arith, upto-last s.opened s.current, (sure d b h).last-low, current-of l.least b)
