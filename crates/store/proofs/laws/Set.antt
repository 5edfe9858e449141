-- Laws about store/specs/Set. Assumes nothing.
use Prim.Native.Nat.{ℕ, zero, suc, ◌+◌, ◌*◌, ◌-◌, ◌<◌, ◌≤◌, ◌^◌}
use mathlib.Core.Bool.{Bool}
use mathlib.Core.Path.{◌≡◌, refl, ap, sym, ◌∙◌}
use mathlib.Core.List.{List, [], ◌∷◌, ◌++◌}
use native.Mathlib.Omega.{arith}
use lib.ListN.{length, get_or, set, drop, length-append, length-drop, length-set}
use lib.Seq.{take-set-le}
use Rattle.model.specs.declared.Slot.{Slot}
use Rattle.model.specs.declared.Header.{Header}
use Rattle.model.specs.Field.{lay}
use Rattle.model.specs.Page.{Page}
use Rattle.model.specs.Store.{Store}
use Rattle.model.specs.Layout.{with_page, encode_page, header_of, no_slot, encode}
use Rattle.page.proofs.laws.Editions.{root-bits}
use Rattle.page.specs.Exact.{Valid}
use Rattle.store.specs.Slots.{SlotFits, slot_parts}
use Rattle.store.proofs.laws.Slots.{none-fits, directory, directory-length}
use Rattle.store.specs.Header.{HeaderFits, put_header}
use Rattle.store.specs.Pages.{AllValid}
use Rattle.store.proofs.laws.Inside.{bytes_of, encode-of, header-in, slot-in, page-in, directory-set, directory-add, directory-drop}
use Rattle.store.specs.Holds.{Holds}
use Rattle.store.proofs.laws.Holds.{header-holds, behind-valid}
use Rattle.store.specs.Set.{with_pages, with_slots, with_state}

pub drop-set : (ps : List Page) (m n : ℕ) (q : Page) → m ≤ n → drop m (set ps n q) ≡ set (drop m ps) (n - m) q
drop-set ps zero n q h = let e : n - 0 ≡ n = omega arith in rw e
drop-set [] (suc m) n q h = refl
drop-set (p ∷ ps) (suc m) zero q h = absurd (omega arith)
drop-set (p ∷ ps) (suc m) (suc n) q h = let e : suc n - suc m ≡ n - m = omega arith in rw e (drop-set ps m n q (omega arith))

module _ (least : ℕ) (four : 4 ≤ least) (eight : least ≤ 8) (s : Store) (v : Holds least s) where
  abbrev h : Header
  h = header_of s

  abbrev dir : List Slot
  dir = directory least s.slots

  abbrev ps : List Page
  ps = drop 5 s.pages

  full : length dir ≡ 64 * least
  full = directory-length least s.slots v.few

  pub page-set : (n : ℕ) (q : Page) → 5 ≤ n → n < length s.pages
      → with_page least (encode least s) n (encode_page least q) ≡ encode least (with_pages s (set s.pages n q))
  page-set n q le lt =
      let t : Store = with_pages s (set s.pages n q) in
      let e : header_of t ≡ h
      = λ i. record {
        pages = length-set s.pages n q i;
        current = s.current;
        opened = s.opened;
        roots = length s.slots;
        oldest = s.oldest;
      } in
      ap (λ (b : List ℕ). with_page least b n (encode_page least q)) (encode-of least s)
      ∙ page-in least four eight h dir ps full (behind-valid least four eight s v) n q le (omega (arith, length-drop 5 s.pages))
      ∙ ap (λ (g : Header). bytes_of least g dir (set ps (n - 5) q)) (sym e)
      ∙ ap (bytes_of least (header_of t) dir) (sym (drop-set s.pages 5 n q le)) ∙ sym (encode-of least t)

  -- a header that changes no number of pages or roots
  pub state-set : (c : ℕ) (o : Bool) → c < 2 ^ 20
      → put_header least (encode least s) (header_of (with_state s c o)) ≡ encode least (with_state s c o)
  state-set c o lt =
      let t : Store = with_state s c o in
      let f : HeaderFits least h = header-holds least four eight s v in
      ap (λ (b : List ℕ). put_header least b (header_of t)) (encode-of least s)
      ∙ header-in least four eight h dir ps (header_of t) (record { pages = f.pages; current = lt; roots = f.roots; oldest = f.oldest })
      ∙ sym (encode-of least t)

  -- a slot in use made another
  pub slot-set : (i : ℕ) (x : Slot) → i < length s.slots → SlotFits x
      → lay (encode least s) (512 * least + 32 * i) (slot_parts x) ≡ encode least (with_slots s (set s.slots i x))
  slot-set i x lt f =
      let t : Store = with_slots s (set s.slots i x) in
      let e : header_of t ≡ h
      = λ j. record {
        pages = length s.pages;
        current = s.current;
        opened = s.opened;
        roots = length-set s.slots i x j;
        oldest = s.oldest;
      } in
      ap (λ (b : List ℕ). lay b (512 * least + 32 * i) (slot_parts x)) (encode-of least s)
      ∙ slot-in least four eight h dir ps i x (omega (arith, v.few, full)) f
      ∙ ap (λ (g : Header). bytes_of least g (set dir i x) ps) (sym e)
      ∙ ap (λ (xs : List Slot). bytes_of least (header_of t) xs ps) (directory-set least s.slots i x lt) ∙ sym (encode-of least t)

  -- the slots and their number
  slots-to : (xs : List Slot) (i : ℕ) (x : Slot) → i < 64 * least → SlotFits x → length xs ≤ 64 * least → set dir i x ≡ directory least xs
      → put_header least (lay (encode least s) (512 * least + 32 * i) (slot_parts x)) (header_of (with_slots s xs))
      ≡ encode least (with_slots s xs)
  slots-to xs i x lt f few e =
      let t : Store = with_slots s xs in
      let g : HeaderFits least h = header-holds least four eight s v in
      ap (λ (b : List ℕ). put_header least (lay b (512 * least + 32 * i) (slot_parts x)) (header_of t)) (encode-of least s)
      ∙ ap (λ (b : List ℕ). put_header least b (header_of t)) (slot-in least four eight h dir ps i x (omega (arith, full)) f)
      ∙ header-in least four eight h (set dir i x) ps (header_of t)
      (record { pages = g.pages; current = g.current; roots = omega (arith, root-bits least eight); oldest = g.oldest })
      ∙ ap (λ (ys : List Slot). bytes_of least (header_of t) ys ps) e ∙ sym (encode-of least t)

  -- one slot more
  pub slot-add : (x : Slot) → length s.slots < 64 * least → SlotFits x
      → let t = with_slots s (s.slots ++ x ∷ []) in
      put_header least (lay (encode least s) (512 * least + 32 * length s.slots) (slot_parts x)) (header_of t) ≡ encode least t
  slot-add x lt f =
      slots-to (s.slots ++ x ∷ []) (length s.slots) x lt f (omega (arith, length-append s.slots (x ∷ [])))
      (directory-add least s.slots x lt)

  -- the last slot gone
  pub slot-drop : (xs : List Slot) (x : Slot) → s.slots ≡ xs ++ x ∷ []
      → let t = with_slots s xs in put_header least (lay (encode least s) (512 * least + 32 * length xs) (slot_parts no_slot)) (header_of t)
      ≡ encode least t
  slot-drop xs x e =
      let n : length s.slots ≡ length xs + 1 = ap length e ∙ length-append xs (x ∷ []) in
      let lt : length xs < 64 * least = omega (arith, v.few) in
      slots-to xs (length xs) no_slot lt none-fits (omega arith)
      (ap (λ (ys : List Slot). set (directory least ys) (length xs) no_slot) e ∙ directory-drop least xs x lt)

-- ---- what is set can be held

valid-set : (least : ℕ) (xs : List Page) (n : ℕ) (q : Page) → AllValid least xs → Valid least q → AllValid least (set xs n q)
valid-set least [] n q v z k = v k
valid-set least (p ∷ xs) zero q v z zero = z
valid-set least (p ∷ xs) zero q v z (suc k) = v (suc k)
valid-set least (p ∷ xs) (suc n) q v z zero = v 0
valid-set least (p ∷ xs) (suc n) q v z (suc k) = valid-set least xs n q (λ j. v (suc j)) z k

module _ (least : ℕ) (s : Store) (v : Holds least s) where
  pub holds-page : (n : ℕ) (q : Page) → 5 ≤ n → Valid least q → Holds least (with_pages s (set s.pages n q))
  holds-page n q h z =
      record {
        five = omega (arith, length-set s.pages n q, v.five);
        most = omega (arith, length-set s.pages n q, v.most);
        front = take-set-le 5 s.pages n q h ∙ v.front;
        current = v.current;
        oldest = v.oldest;
        few = v.few;
        slots = v.slots;
        pages = valid-set least s.pages n q v.pages z;
      }

  pub holds-slots : (xs : List Slot) → length xs ≤ 64 * least → ((k : ℕ) → SlotFits (get_or xs k no_slot)) → Holds least (with_slots s xs)
  holds-slots xs h f =
      record {
        five = v.five;
        most = v.most;
        front = v.front;
        current = v.current;
        oldest = v.oldest;
        few = h;
        slots = f;
        pages = v.pages;
      }

  pub holds-state : (c : ℕ) (o : Bool) → c < 2 ^ 20 → Holds least (with_state s c o)
  holds-state c o h =
      record {
        five = v.five;
        most = v.most;
        front = v.front;
        current = h;
        oldest = v.oldest;
        few = v.few;
        slots = v.slots;
        pages = v.pages;
      }
