-- A header, a slot or a page set in the bytes of a header, a directory and pages. Assumes nothing.
use Prim.Native.Nat.{ℕ, suc, ◌+◌, ◌*◌, ◌-◌, ◌<◌, ◌≤◌}
use mathlib.Core.Path.{◌≡◌, refl, ap, sym, ◌∙◌}
use mathlib.Core.List.{List, [], ◌∷◌, ◌++◌, append_assoc}
use native.Mathlib.Omega.{arith}
use lib.ListN.{length, get_or, set, drop, replicate, length-append, length-set}
use lib.Seq.{set-append_left, set_at}
use Rattle.model.specs.declared.Slot.{Slot}
use Rattle.model.specs.declared.Header.{Header}
use Rattle.model.specs.Field.{lay}
use Rattle.model.specs.Page.{Page, free}
use Rattle.model.specs.Store.{Store}
use Rattle.model.specs.Layout.{page_of, with_page, encode_page, slots_bytes, pages_bytes, header_bytes, header_of, no_slot, encode}
use Rattle.store.specs.Slots.{SlotFits, slot_parts}
use Rattle.store.proofs.laws.Slots.{slot-put, directory, slots_length}
use Rattle.store.specs.Header.{HeaderFits, put_header}
use Rattle.store.proofs.laws.Header.{header-length, header-put}
use Rattle.store.specs.Pages.{AllValid}
use Rattle.store.proofs.laws.Pages.{page-of, with-page}

abbrev pub bytes_of : ℕ → Header → List Slot → List Page → List ℕ
bytes_of least h xs ps = header_bytes least h ++ (slots_bytes xs ++ pages_bytes least ps)

pub encode-of : (least : ℕ) (s : Store) → encode least s ≡ bytes_of least (header_of s) (directory least s.slots) (drop 5 s.pages)
unfolding encode directory
encode-of least s = refl

module _ (least : ℕ) (four : 4 ≤ least) (eight : least ≤ 8) (h : Header) (xs : List Slot) (ps : List Page) where
  pub header-in : (g : Header) → HeaderFits least g → put_header least (bytes_of least h xs ps) g ≡ bytes_of least g xs ps
  header-in g f = header-put least four eight h g (slots_bytes xs ++ pages_bytes least ps) f

  pub slot-in : (i : ℕ) (x : Slot) → i < length xs → SlotFits x
      → lay (bytes_of least h xs ps) (512 * least + 32 * i) (slot_parts x) ≡ bytes_of least h (set xs i x) ps
  slot-in i x lt f =
      let o : 512 * least + 32 * i ≡ 8 * length (header_bytes least h) + 32 * i = omega (arith, header-length least h) in
      rw o (slot-put (header_bytes least h) (pages_bytes least ps) xs i lt x f)

  pub page-out : length xs ≡ 64 * least → AllValid least ps → (n : ℕ) → 5 ≤ n → n < 5 + length ps
      → page_of least (bytes_of least h xs ps) n ≡ encode_page least (get_or ps (n - 5) free)
  page-out full v n le lt =
      let a : List ℕ = header_bytes least h in
      let b : List ℕ = slots_bytes xs in
      let whole : length (a ++ b) ≡ 5 * (64 * least) = length-append a b ∙ omega (arith, header-length least h, slots_length xs) in
      let e : n ≡ 5 + (n - 5) = omega arith in
      ap (λ (k : ℕ). page_of least (a ++ (b ++ pages_bytes least ps)) k) e
      ∙ ap (λ (s : List ℕ). page_of least s (5 + (n - 5))) (sym (append_assoc a b (pages_bytes least ps)))
      ∙ page-of least four ps v (a ++ b) 5 whole (n - 5) (omega arith)

  pub page-in : length xs ≡ 64 * least → AllValid least ps → (n : ℕ) (q : Page) → 5 ≤ n → n < 5 + length ps
      → with_page least (bytes_of least h xs ps) n (encode_page least q) ≡ bytes_of least h xs (set ps (n - 5) q)
  page-in full v n q le lt =
      let a : List ℕ = header_bytes least h in
      let b : List ℕ = slots_bytes xs in
      let whole : length (a ++ b) ≡ 5 * (64 * least) = length-append a b ∙ omega (arith, header-length least h, slots_length xs) in
      let e : n ≡ 5 + (n - 5) = omega arith in
      ap (λ (k : ℕ). with_page least (a ++ (b ++ pages_bytes least ps)) k (encode_page least q)) e
      ∙ ap (λ (s : List ℕ). with_page least s (5 + (n - 5)) (encode_page least q)) (sym (append_assoc a b (pages_bytes least ps)))
      ∙ with-page least four ps v (a ++ b) 5 whole (n - 5) (omega arith) q ∙ append_assoc a b (pages_bytes least (set ps (n - 5) q))

-- ---- the directory

module _ (least : ℕ) (xs : List Slot) where
  pub directory-set : (i : ℕ) (x : Slot) → i < length xs → set (directory least xs) i x ≡ directory least (set xs i x)
  unfolding directory
  directory-set i x lt =
      set-append_left xs (replicate (64 * least - length xs) no_slot) i x lt
      ∙ ap (λ (n : ℕ). set xs i x ++ replicate (64 * least - n) no_slot) (sym (length-set xs i x))

  -- one behind the last
  after : (x : Slot) → directory least (xs ++ x ∷ []) ≡ xs ++ x ∷ replicate (64 * least - (length xs + 1)) no_slot
  unfolding directory
  after x =
      let n : length (xs ++ x ∷ []) ≡ length xs + 1 = length-append xs (x ∷ []) in
      append_assoc xs (x ∷ []) (replicate (64 * least - length (xs ++ x ∷ [])) no_slot)
      ∙ ap (λ (k : ℕ). xs ++ x ∷ replicate (64 * least - k) no_slot) n

  before : length xs < 64 * least → directory least xs ≡ xs ++ no_slot ∷ replicate (64 * least - (length xs + 1)) no_slot
  unfolding directory
  before lt =
      let e : 64 * least - length xs ≡ suc (64 * least - (length xs + 1)) = omega arith in ap (λ (k : ℕ). xs ++ replicate k no_slot) e

  pub directory-add : (x : Slot) → length xs < 64 * least → set (directory least xs) (length xs) x ≡ directory least (xs ++ x ∷ [])
  directory-add x lt = rw (before lt, after x) (set_at xs no_slot (replicate (64 * least - (length xs + 1)) no_slot) x (length xs) refl)

  pub directory-drop : (x : Slot) → length xs < 64 * least → set (directory least (xs ++ x ∷ [])) (length xs) no_slot ≡ directory least xs
  directory-drop x lt = rw (before lt, after x) (set_at xs x (replicate (64 * least - (length xs + 1)) no_slot) no_slot (length xs) refl)
