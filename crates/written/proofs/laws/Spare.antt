-- The bytes of a store have no stray bit: they pass rule 1's tests of zero bits, and each of them is a byte.
-- Assumes nothing.
use Prim.Native.Nat.{ℕ, zero, suc, ◌+◌, ◌*◌, ◌-◌, ◌≤◌, ◌<◌}
use native.Mathlib.Omega.{arith}
use mathlib.Core.Bool.{true}
use mathlib.Core.Path.{◌≡◌, refl, ap, sym, ◌∙◌, subst}
use mathlib.Core.List.{List, [], ◌∷◌, ◌++◌, append_assoc}
use lib.ListN.{length, drop, length-append}
use borrow.Author.Tests.{le-leb, eq-eqb}
use Rattle.bits.proofs.laws.Append.{field-left, field-right}
use Rattle.bits.proofs.laws.Lay.{total, zero_field, zeros-bit, length-zeros, bytes-zeros, bytes-append, bytes_packed, packed-rest}
use Rattle.model.specs.declared.Slot.{Slot}
use Rattle.model.specs.Limits.{root_bits, oldest_bits}
use Rattle.model.specs.Field.{field, Bytes, zeros}
use Rattle.model.specs.Page.{Page}
use Rattle.model.specs.Store.{Store, page}
use Rattle.model.specs.Layout.{page_of, encode_page, slot_bytes, slots_bytes, header_bytes, header_parts, header_of, pages_bytes, size_of, encode}
use Rattle.model.specs.Clean.{clean_page, clean_pages, clean_front}
use Rattle.page.proofs.laws.Editions.{root-bits, oldest-bits}
use Rattle.page.proofs.laws.Passes.{encode-bytes, encode-clean}
use Rattle.store.proofs.laws.Read.{size_is}
use Rattle.store.specs.Slots.{slot_parts}
use Rattle.store.proofs.laws.Slots.{slots_length, directory-bytes}
use Rattle.store.proofs.laws.Header.{header-length}
use Rattle.store.proofs.laws.Exactly.{encode-is as store_is}
use Rattle.store.specs.Holds.{Holds}
use Rattle.store.proofs.laws.Holds.{header-encoded, page-encoded, encoded-length}
use Rattle.model.proofs.lists.Lists.{both-intro}

field-zeros : (m at n : ℕ) → field (zeros m) at n ≡ 0
field-zeros m at n = zero_field (zeros m) at n (λ i l h. zeros-bit m i)

-- ---- the front

slots-bytes : (xs : List Slot) → Bytes (slots_bytes xs)
unfolding slots_bytes slot_bytes
slots-bytes [] = λ i. omega arith
slots-bytes (x ∷ xs) = bytes-append (slot_bytes x) (slots_bytes xs) (bytes_packed 4 (slot_parts x) (omega arith)) (slots-bytes xs)

pages-clean : (least : ℕ) (b : List ℕ) (n k : ℕ) → ((m : ℕ) → n ≤ m → m < n + k → clean_page least (page_of least b m) ≡ true)
    → clean_pages least b n k ≡ true
unfolding clean_pages
pages-clean least b n zero h = refl
pages-clean least b n (suc k) h =
    both-intro _ _ (h n (omega arith) (omega arith)) (pages-clean least b (n + 1) k (λ m l z. h m (omega arith) (omega arith)))

module _ (least : ℕ) (four : 4 ≤ least) (eight : least ≤ 8) (s : Store) (v : Holds least s) where
  abbrev header : List ℕ
  header = header_bytes least (header_of s)

  abbrev ps : List Page
  ps = drop 5 s.pages

  abbrev r : ℕ
  r = length s.slots

  pub total-is : total (header_parts least (header_of s)) ≡ 74 + root_bits least + oldest_bits least
  total-is = omega arith

  -- the directory's unused slots as zeros
  store-parts : encode least s ≡ (header ++ slots_bytes s.slots) ++ (zeros (4 * (64 * least - r)) ++ pages_bytes least ps)
  store-parts =
      let x : List ℕ = slots_bytes s.slots in
      let z : List ℕ = zeros (4 * (64 * least - r)) in
      store_is least s ∙ ap (λ (y : List ℕ). (header ++ y) ++ pages_bytes least ps) (directory-bytes least s.slots)
      ∙ ap (λ (y : List ℕ). y ++ pages_bytes least ps) (sym (append_assoc header x z)) ∙ append_assoc (header ++ x) z (pages_bytes least ps)

  header-spare : field (encode least s) (74 + root_bits least + oldest_bits least) (512 * least - (74 + root_bits least + oldest_bits least))
      ≡ 0
  unfolding header_bytes
  header-spare =
      let w = root-bits least eight in
      let o = oldest-bits least in
      let n : length header ≡ 64 * least = header-length least (header_of s) in
      let t : total (header_parts least (header_of s)) ≡ 74 + root_bits least + oldest_bits least = total-is in
      ap (λ (b : List ℕ). field b (74 + root_bits least + oldest_bits least) (512 * least - (74 + root_bits least + oldest_bits least)))
      (store-parts ∙ append_assoc header (slots_bytes s.slots) (zeros (4 * (64 * least - r)) ++ pages_bytes least ps))
      ∙ field-left header (slots_bytes s.slots ++ (zeros (4 * (64 * least - r)) ++ pages_bytes least ps))
      (74 + root_bits least + oldest_bits least) (512 * least - (74 + root_bits least + oldest_bits least)) (omega arith)
      ∙ zero_field header (74 + root_bits least + oldest_bits least) (512 * least - (74 + root_bits least + oldest_bits least))
      (λ i l h. packed-rest (64 * least) (header_parts least (header_of s)) i (omega arith) (omega arith))

  -- "Unused slots are zero."
  slots-rest : field (encode least s) (512 * least + 32 * r) (2560 * least - (512 * least + 32 * r)) ≡ 0
  slots-rest =
      let a : List ℕ = header ++ slots_bytes s.slots in
      let n : length a ≡ 64 * least + 4 * r = length-append header (slots_bytes s.slots)
      ∙ omega (arith, header-length least (header_of s), slots_length s.slots) in
      let o : 512 * least + 32 * r ≡ 8 * length a + 0 = omega arith in
      let m : ℕ = 4 * (64 * least - r) in
      rw (store-parts, o)
      (field-right a (zeros m ++ pages_bytes least ps) 0 (2560 * least - (8 * length a + 0))
      ∙ field-left (zeros m) (pages_bytes least ps) 0 (2560 * least - (8 * length a + 0)) (omega (arith, length-zeros m, v.few))
      ∙ field-zeros m 0 _)

  pub encoded-size : size_of least (encode least s) ≡ length s.pages
  encoded-size = size_is least (length s.pages) (encode least s) (omega arith) (encoded-length least four eight s v)

  pub front-clean : clean_front least (encode least s) ≡ true
  unfolding clean_front
  front-clean =
      rw (header-encoded least four eight s v, encoded-size)
      (both-intro _ _ (eq-eqb (length s.pages) (length s.pages) refl)
      (both-intro _ _ (eq-eqb _ 0 header-spare) (both-intro _ _ (le-leb r (64 * least) v.few) (eq-eqb _ 0 slots-rest))))

  -- where free pages have no entries
  pub all-clean : ((m : ℕ) → (page s.pages m).level ≡ 0 → (page s.pages m).entries ≡ [])
      → clean_pages least (encode least s) 5 (size_of least (encode least s) - 5) ≡ true
  all-clean none =
      pages-clean least (encode least s) 5 (size_of least (encode least s) - 5)
      (λ m l h. ap (clean_page least) (page-encoded least four eight s v m l (omega (arith, encoded-size, v.five)))
      ∙ encode-clean least four eight (page s.pages m) (v.pages m) (none m))

  pages-bytes : (qs : List Page) → Bytes (pages_bytes least qs)
  unfolding pages_bytes
  pages-bytes [] = λ i. omega arith
  pages-bytes (q ∷ qs) = bytes-append (encode_page least q) (pages_bytes least qs) (encode-bytes least four eight q) (pages-bytes qs)

  header-bytes : Bytes header
  unfolding header_bytes
  header-bytes =
      bytes_packed (64 * least) (header_parts least (header_of s)) (omega (arith, total-is, root-bits least eight, oldest-bits least))

  -- each is a byte
  pub encoded-bytes : Bytes (encode least s)
  encoded-bytes =
      subst Bytes (sym store-parts)
      (bytes-append (header ++ slots_bytes s.slots) (zeros (4 * (64 * least - r)) ++ pages_bytes least ps)
      (bytes-append header (slots_bytes s.slots) header-bytes (slots-bytes s.slots))
      (bytes-append (zeros (4 * (64 * least - r))) (pages_bytes least ps) (bytes-zeros _) (pages-bytes ps)))
