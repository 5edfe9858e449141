-- Laws about store/specs/Holds. Assumes nothing.
use Prim.Native.Nat.{ℕ, ◌+◌, ◌*◌, ◌-◌, ◌<◌, ◌≤◌}
use mathlib.Core.Path.{◌≡◌, ap, sym, ◌∙◌}
use mathlib.Core.List.{List, ◌++◌}
use native.Mathlib.Omega.{arith}
use native.Mathlib.Nat.{add-mul}
use lib.ListN.{length, get_or, drop, replicate, length-append, length-drop, take-append-drop}
use lib.Seq.{ext_get_or, get_or-drop}
use Rattle.model.specs.declared.Header.{Header}
use Rattle.model.specs.Page.{Page, free}
use Rattle.model.specs.Store.{Store, page}
use Rattle.model.specs.Layout.{page_of, decode_page, encode_page, read_header, read_slot, read_slots, read_pages, slots_bytes, pages_bytes}
use Rattle.model.specs.Layout.{header_bytes, header_of, no_slot, encode, decode, size_of}
use Rattle.page.proofs.laws.Editions.{root-bits}
use Rattle.page.proofs.laws.Exact.{decode-encode}
use Rattle.store.proofs.laws.Read.{size_is, length-slots, length-pages, pages-at, slots_at}
use Rattle.store.proofs.laws.Slots.{slots_length, slot-get, directory, directory-length, directory-low}
use Rattle.store.specs.Header.{HeaderFits}
use Rattle.store.proofs.laws.Header.{header-length, header_read}
use Rattle.store.specs.Pages.{AllValid}
use Rattle.store.proofs.laws.Pages.{pages-length, page-of}
use Rattle.store.proofs.laws.Exactly.{front_of, encode-is}
use Rattle.store.specs.Holds.{Holds}

module _ (least : ℕ) (four : 4 ≤ least) (eight : least ≤ 8) (s : Store) (v : Holds least s) where
  abbrev ps : List Page
  ps = drop 5 s.pages

  pub header-holds : HeaderFits least (header_of s)
  header-holds = record { pages = v.most; current = v.current; roots = omega (arith, v.few, root-bits least eight); oldest = v.oldest }

  pub front_length : length (front_of least s) ≡ 5 * (64 * least)
  front_length =
      length-append (header_bytes least (header_of s)) (slots_bytes (directory least s.slots))
      ∙ omega (
        arith,
        header-length least (header_of s),
        slots_length (directory least s.slots),
        directory-length least s.slots v.few,
      )

  pub behind-valid : AllValid least (drop 5 s.pages)
  behind-valid k = rw (get_or-drop 5 s.pages k free) (v.pages (5 + k))

  pub encoded-length : length (encode least s) ≡ length s.pages * (64 * least)
  encoded-length =
      let n : length s.pages ≡ length s.pages - 5 + 5 = omega (arith, v.five) in
      let q : length s.pages * (64 * least) ≡ (length s.pages - 5) * (64 * least) + 5 * (64 * least)
      = ap (λ (y : ℕ). y * (64 * least)) n ∙ add-mul (length s.pages - 5) 5 (64 * least) in
      let b : length (pages_bytes least ps) ≡ (length s.pages - 5) * (64 * least)
      = pages-length least four ps behind-valid ∙ ap (λ (y : ℕ). y * (64 * least)) (length-drop 5 s.pages) in
      ap length (encode-is least s) ∙ length-append (front_of least s) (pages_bytes least ps) ∙ omega (arith, front_length)

  pub page-encoded : (n : ℕ) → 5 ≤ n → n < length s.pages → page_of least (encode least s) n ≡ encode_page least (page s.pages n)
  page-encoded n h lt =
      let e : 5 + (n - 5) ≡ n = omega arith in
      ap (λ (k : ℕ). page_of least (encode least s) k) (sym e) ∙ ap (λ (b : List ℕ). page_of least b (5 + (n - 5))) (encode-is least s)
      ∙ page-of least four ps behind-valid (front_of least s) 5 front_length (n - 5) (omega (arith, length-drop 5 s.pages))
      ∙ ap (encode_page least) (get_or-drop 5 s.pages (n - 5) free ∙ ap (page s.pages) e)

  pub header-encoded : read_header least (encode least s) ≡ header_of s
  unfolding encode
  header-encoded =
      header_read least four eight (header_of s)
      (slots_bytes (s.slots ++ replicate (64 * least - length s.slots) no_slot) ++ pages_bytes least ps) header-holds

  pub slot-encoded : (k : ℕ) → k < length s.slots → read_slot (encode least s) (512 * least + 32 * k) ≡ get_or s.slots k no_slot
  unfolding encode directory
  slot-encoded k lt =
      let h : List ℕ = header_bytes least (header_of s) in
      let o : 512 * least + 32 * k ≡ 8 * length h + 32 * k = omega (arith, header-length least (header_of s)) in
      let g : get_or (directory least s.slots) k no_slot ≡ get_or s.slots k no_slot = directory-low least s.slots k lt in
      rw o
      (slot-get h (pages_bytes least ps) (directory least s.slots) k (omega (arith, v.few, directory-length least s.slots v.few))
      (rw g (v.slots k)) ∙ g)

  slots-encoded : read_slots (encode least s) (512 * least) (length s.slots) ≡ s.slots
  slots-encoded =
      let n : ℕ = length s.slots in
      let b : List ℕ = encode least s in
      ext_get_or no_slot (read_slots b (512 * least) n) s.slots (length-slots b (512 * least) n) λ k lt.
      let q : k < n = omega (arith, length-slots b (512 * least) n) in
      slots_at b (512 * least) n k q ∙ slot-encoded k q

  pages-encoded : read_pages least (encode least s) 5 (length s.pages - 5) ≡ ps
  pages-encoded =
      let b : List ℕ = encode least s in
      let n : ℕ = length s.pages - 5 in
      ext_get_or free (read_pages least b 5 n) ps (length-pages least b 5 n ∙ sym (length-drop 5 s.pages)) λ k lt.
      let q : k < n = omega (arith, length-pages least b 5 n) in
      pages-at least b 5 n k q ∙ ap (decode_page least) (page-encoded (5 + k) (omega arith) (omega arith))
      ∙ decode-encode least four eight (page s.pages (5 + k)) (v.pages (5 + k)) ∙ sym (get_or-drop 5 s.pages k free)

  pub decode-encoded : decode least (encode least s) ≡ s
  unfolding decode
  decode-encoded =
      let b : List ℕ = encode least s in
      let n : size_of least b ≡ length s.pages = size_is least (length s.pages) b (omega arith) encoded-length in
      let p : replicate 5 free ++ read_pages least b 5 (size_of least b - 5) ≡ s.pages
      = ap (λ (k : ℕ). replicate 5 free ++ read_pages least b 5 (k - 5)) n ∙ ap (λ (l : List Page). replicate 5 free ++ l) pages-encoded
      ∙ ap (λ (l : List Page). l ++ drop 5 s.pages) (sym v.front) ∙ take-append-drop 5 s.pages in
      let q : read_slots b (512 * least) (read_header least b).roots ≡ s.slots
      = ap (λ (h : Header). read_slots b (512 * least) h.roots) header-encoded ∙ slots-encoded in
      λ i. record {
        current = (header-encoded i).current;
        opened = (header-encoded i).opened;
        oldest = (header-encoded i).oldest;
        slots = q i;
        pages = p i;
      }
