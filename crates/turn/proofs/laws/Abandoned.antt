-- An abandon's last step: with every page as it was, the open version's slot and the flag go.
-- Assumes nothing.
use Prim.Native.Nat.{ℕ, ◌+◌, ◌*◌, ◌-◌, ◌^◌, ◌≤◌, ◌<◌}
use native.Mathlib.Omega.{arith}
use mathlib.Core.Bool.{Bool, true, false}
use mathlib.Core.Path.{◌≡◌, ap, sym, ◌∙◌, subst}
use mathlib.Core.Logic.{◌⊎◌, inl, inr}
use mathlib.Core.List.{List, [], ◌∷◌, ◌++◌, map}
use lib.Dec.{leb, ltb, eqb}
use lib.ListN.{length, get_or, take, length-map, get_or-map}
use lib.Seq.{length-take-le}
use borrow.Author.Tests.{leb-true, eqb-true, eqb-false}
use Rattle.model.specs.declared.Slot.{Slot}
use Rattle.model.specs.declared.Header.{Header}
use Rattle.model.specs.declared.Limits.{Limits}
use Rattle.model.specs.Limits.{Edition}
use Rattle.model.specs.Basic.{those, in_order}
use Rattle.model.specs.Page.{Page, free}
use Rattle.model.specs.Store.{Store, next, last_of, last}
use Rattle.model.specs.Field.{lay}
use Rattle.model.specs.Header.{with_flag, with_roots}
use Rattle.model.specs.Layout.{no_slot, header_of, read_header, read_slot, encode, decode}
use Rattle.model.specs.Judged.{is_sound}
use Rattle.model.specs.Calls.{back, abandoned}
use Rattle.model.proofs.lists.Members.{all-at, bool_cases}
use Rattle.model.proofs.lists.Lists.{take-map}
use Rattle.model.proofs.sound.ByRule.{some-slot}
use Rattle.page.specs.Exact.{Valid}
use Rattle.store.specs.Slots.{slot_parts}
use Rattle.store.specs.Header.{put_header}
use Rattle.store.specs.Holds.{Holds}
use Rattle.store.proofs.laws.Holds.{slot-encoded}
use Rattle.store.specs.Set.{with_pages, with_slots, with_state}
use Rattle.store.proofs.laws.Set.{state-set}
use Rattle.store.proofs.laws.Sure.{sure}
use Rattle.edit.proofs.laws.Left.{valid-back}
use Rattle.turn.proofs.laws.Partly.{free_back, frees}
use Rattle.turn.specs.Slotted.{last_place, Cleared}
use Rattle.turn.proofs.laws.Slotted.{last_apart, other, last_goes, last-stays}
use Rattle.turn.specs.Turned.{HeadedBytes}
use Rattle.turn.proofs.laws.Turned.{dropped}

-- a store whose pages came back can be held
pub back-holds : (least w : ℕ) (s : Store) → 0 < w → w < 2 ^ 20 → Holds least s → Holds least (with_pages s (map (back w) s.pages))
back-holds least w s p q h = record {
  five = omega (arith, h.five, length-map s.pages (back w));
  most = omega (arith, h.most, length-map s.pages (back w));
  front = take-map (back w) 5 s.pages ∙ ap (map (back w)) h.front ∙ frees (back w) (free_back w p) 5;
  current = h.current;
  oldest = h.oldest;
  few = h.few;
  slots = h.slots;
  pages = λ k. subst (Valid least)
      (sym (get_or-map (back w) s.pages k free) ∙ ap (λ (x : Page). get_or (map (back w) s.pages) k x) (free_back w p))
      (valid-back least w _ q (h.pages k));
}

module _ {l : Limits} (d : Edition l) (b : List ℕ) (h : is_sound l.least b ≡ true) (k : HeadedBytes l.least b) where
  roots-are : (read_header l.least b).roots ≡ length (decode l.least b).slots
  roots-are = sym (ap (λ (x : Header). x.roots) k.header)

  pub some-roots : 0 < (read_header l.least b).roots
  some-roots = omega (arith, roots-are, some-slot (decode l.least b).oldest (decode l.least b).slots (sure d b h).begins)

module _ {l : Limits} (d : Edition l) (b : List ℕ) (h : is_sound l.least b ≡ true) (k : HeadedBytes l.least b)
    (o : (decode l.least b).opened ≡ true)
    (w : ℕ) (e : w ≡ next (decode l.least b)) (low : w < 2 ^ 20) where
  abbrev least : ℕ
  least = l.least

  abbrev s : Store
  s = decode l.least b

  abbrev s1 : Store
  s1 = with_pages s (map (back w) s.pages)

  some : 0 < length s.slots
  some = omega (arith, roots-are d b h k, some-roots d b h k)

  rooted : (read_header least b).roots ≡ length s.slots
  rooted = roots-are d b h k

  held1 : Holds least s1
  held1 = back-holds least w s (omega arith) low k.holds

  abbrev last_slot : Slot
  last_slot = get_or s.slots (length s.slots - 1) no_slot

  abbrev others : List Slot
  others = take (length s.slots - 1) s.slots

  split : s.slots ≡ others ++ (last_slot ∷ [])
  split = last_apart s.slots (omega (arith, some))

  last-low : last_slot.version ≤ w
  last-low =
      let q : last_slot.version ≤ last s = leb-true last_slot.version (last s)
      (all-at (λ (x : Slot). leb x.version (last s)) no_slot s.slots (sure d b h).upto (length s.slots - 1)
      (omega (arith, some))) in
      omega (arith, ap (λ (x : Bool). last_of x s.current) o)

  in_bytes : read_slot (encode least s1) (last_place least (read_header least b).roots) ≡ last_slot
  in_bytes =
      ap (λ (n : ℕ). read_slot (encode least s1) (512 * least + 32 * (n - 1))) rooted
      ∙ slot-encoded least d.four d.eight s1 held1 (length s.slots - 1) (omega (arith, some))

  few-others : length others ≡ length s.slots - 1
  few-others = length-take-le (length s.slots - 1) s.slots (omega arith)

  -- the header that is written
  header_is : (xs : List Slot) (r : ℕ) → r ≡ length xs
      → with_flag (with_roots (read_header least b) r) false ≡ header_of (with_state (with_slots s1 xs) s.current false)
  header_is xs r q = λ i. record {
    pages = (sym (ap (λ (x : Header). x.pages) k.header) ∙ sym (length-map s.pages (back w))) i;
    current = sym (ap (λ (x : Header). x.current) k.header) i;
    opened = false;
    roots = q i;
    oldest = sym (ap (λ (x : Header). x.oldest) k.header) i;
  }

  -- what is left is what an abandon leaves
  abandoned-is : (xs : List Slot) → those (other w) s.slots ≡ xs → with_state (with_slots s1 xs) s.current false ≡ abandoned s
  unfolding abandoned
  abandoned-is xs q =
      let t : Store = with_state (with_slots s1 (those (other w) s.slots)) s.current false in
      ap (λ (ys : List Slot). with_state (with_slots s1 ys) s.current false) (sym q)
      ∙ ap (λ (n : ℕ).
      record {
        current = s.current;
        opened = false;
        oldest = s.oldest;
        slots = those (other n) s.slots;
        pages = map (back n) s.pages;
      }) e

  pub abandoned-bytes : (b1 b2 : List ℕ) (r : ℕ) → b1 ≡ encode least s1 → Cleared least b1 b2 (read_header least b).roots w r
      → put_header least b2 (with_flag (with_roots (read_header least b) r) false) ≡ encode least (abandoned s)
  abandoned-bytes b1 b2 r q c = at (bool_cases (eqb last_slot.version w))
    where
      order : in_order (λ (x y : Slot). ltb x.version y.version) (others ++ (last_slot ∷ [])) ≡ true
      order = subst (λ (xs : List Slot). in_order (λ (x y : Slot). ltb x.version y.version) xs ≡ true) split (sure d b h).rises

      found : (read_slot b1 (last_place least (read_header least b).roots)).version ≡ last_slot.version
      found =
          ap (λ (x : List ℕ). (read_slot x (last_place least (read_header least b).roots)).version) q ∙ ap (λ (x : Slot). x.version) in_bytes

      at : (eqb last_slot.version w ≡ true) ⊎ (eqb last_slot.version w ≡ false)
          → put_header least b2 (with_flag (with_roots (read_header least b) r) false) ≡ encode least (abandoned s)
      at (inl y) =
          let is-w : last_slot.version ≡ w = eqb-true last_slot.version w y in
          let (u, v) = c.goes (found ∙ is-w) in
          let those-are : those (other w) s.slots ≡ others = ap (those (other w)) split
          ∙ last_goes w others last_slot order last-low is-w in
          let n : 512 * least + 32 * ((read_header least b).roots - 1) ≡ 512 * least + 32 * length others
          = omega (arith, rooted, few-others) in
          ap (put_header least b2) (header_is others r (omega (arith, rooted, few-others)))
          ∙ ap (λ (x : List ℕ). put_header least x (header_of (with_state (with_slots s1 others) s.current false)))
          (u ∙ ap (λ (x : List ℕ). lay x (last_place least (read_header least b).roots) (slot_parts no_slot)) q
          ∙ ap (λ (i : ℕ). lay (encode least s1) i (slot_parts no_slot)) n)
          ∙ dropped least d.four d.eight s1 held1 others last_slot split ∙ ap (encode least) (abandoned-is others those-are)
      at (inr y) =
          let not-w : last_slot.version ≡ w → ⊥ = eqb-false last_slot.version w y in
          let (u, v) = c.stays (λ z. not-w (sym found ∙ z)) in
          let those-are : those (other w) s.slots ≡ s.slots = ap (those (other w)) split
          ∙ last-stays w others last_slot order last-low not-w ∙ sym split in
          ap (put_header least b2) (header_is s.slots r (v ∙ rooted))
          ∙ ap (λ (x : List ℕ). put_header least x (header_of (with_state s1 s.current false))) (u ∙ q)
          ∙ state-set least d.four d.eight s1 held1 s.current false k.holds.current
          ∙ ap (encode least) (abandoned-is s.slots those-are)
