-- Bytes with nothing beside the store that they show are that store's. Assumes nothing.
use Prim.Native.Nat.{ℕ, zero, suc, ◌+◌, ◌*◌, ◌-◌, ◌<◌, ◌≤◌}
use mathlib.Core.Path.{◌≡◌, ap, sym, ◌∙◌}
use mathlib.Core.List.{List, ◌++◌, append_assoc}
use native.Mathlib.Omega.{arith}
use native.Mathlib.Nat.{suc-mul, mul-le-mul_right, add-mul}
use native.Mathlib.Numerals.{add-one}
use lib.ListN.{length, take, drop}
use lib.Seq.{take_all}
use Rattle.bits.proofs.laws.Lay.{Shows, two-parts}
use Rattle.bits.proofs.laws.Over.{zero-part}
use Rattle.model.specs.declared.Slot.{Slot}
use Rattle.model.specs.Limits.{root_bits, oldest_bits}
use Rattle.model.specs.Field.{field, Bytes}
use Rattle.model.specs.Store.{Store}
use Rattle.model.specs.Layout.{page_of, read_header, read_slots, read_pages, slots_bytes, pages_bytes, header_bytes, header_of, encode, decode}
use Rattle.model.specs.Layout.{size_of}
use Rattle.page.proofs.laws.Clean.{Clean, exact}
use Rattle.store.proofs.laws.Read.{size_is, length-slots, count-pages, behind, current-of, opened_of, oldest-of, slots-of}
use Rattle.store.proofs.laws.Parts.{page-take}
use Rattle.store.proofs.laws.Slots.{directory, directory-bytes, slots-part}
use Rattle.store.proofs.laws.Header.{name_parts, header-part}

pub record Exactly (least : ℕ) (s : List ℕ) (size : ℕ) : Type 0 where
  pub bytes : Bytes s
  pub whole : length s ≡ size * (64 * least)
  pub six : 6 ≤ size
  -- the four bytes and the edition
  pub name : Shows s 0 (name_parts least)
  pub counted : (read_header least s).pages ≡ size
  pub spare : field s (74 + root_bits least + oldest_bits least) (512 * least - (74 + root_bits least + oldest_bits least)) ≡ 0
  pub roots : (read_header least s).roots ≤ 64 * least
  pub rest : field s (512 * least + 32 * (read_header least s).roots) (2560 * least - (512 * least + 32 * (read_header least s).roots)) ≡ 0
  pub clean : (n : ℕ) → 5 ≤ n → n < size → Clean least (page_of least s n)

-- the front: header and directory
abbrev pub front_of : ℕ → Store → List ℕ
front_of least s = header_bytes least (header_of s) ++ slots_bytes (directory least s.slots)

pub encode-is : (least : ℕ) (s : Store) → encode least s ≡ front_of least s ++ pages_bytes least (drop 5 s.pages)
unfolding encode directory
encode-is least s =
    sym (append_assoc (header_bytes least (header_of s)) (slots_bytes (directory least s.slots)) (pages_bytes least (drop 5 s.pages)))

module _ (least : ℕ) (four : 4 ≤ least) (eight : least ≤ 8) (s : List ℕ) where
  -- clean pages, written again
  pub pages-part : (n k : ℕ) → ((m : ℕ) → n ≤ m → m < n + k → Clean least (page_of least s m))
      → pages_bytes least (read_pages least s n k) ≡ take (k * (64 * least)) (drop (n * (64 * least)) s)
  unfolding pages_bytes read_pages
  pages-part n zero c = let e : 0 * (64 * least) ≡ 0 = omega arith in rw e
  pages-part n (suc k) c =
      let e : (n + 1) * (64 * least) ≡ n * (64 * least) + 64 * least = ap (λ (x : ℕ). x * (64 * least)) (add-one n)
      ∙ suc-mul n (64 * least) in
      let f : suc k * (64 * least) ≡ 64 * least + k * (64 * least) = omega (arith, suc-mul k (64 * least)) in
      rw (
        (exact least four eight (page_of least s n) (c n (omega arith) (omega arith))).same,
        pages-part (n + 1) k (λ m l h. c m (omega arith) (omega arith)),
        page-take least s n,
        e,
        f,
      )
      (two-parts s (n * (64 * least)) (64 * least) (k * (64 * least)))

  module _ (size : ℕ) (x : Exactly least s size) where
    size-of : size_of least s ≡ size
    size-of = size_is least size s (omega arith) x.whole

    long : 6 * (64 * least) ≤ length s
    long = rw x.whole (mul-le-mul_right (64 * least) x.six)

    abbrev r : ℕ
    r = (read_header least s).roots

    pub header_of_lem : header_of (decode least s) ≡ read_header least s
    header_of_lem =
        let p : length (decode least s).pages ≡ (read_header least s).pages = count-pages least s (omega (arith, size-of, x.six)) ∙ size-of
        ∙ sym x.counted in
        let n : length (decode least s).slots ≡ r = ap length (slots-of least s) ∙ length-slots s (512 * least) r in
        λ i. record { pages = p i; current = current-of least s i; opened = opened_of least s i; roots = n i; oldest = oldest-of least s i }

    front-is : header_bytes least (header_of (decode least s)) ≡ take (64 * least) (drop 0 s)
    front-is = ap (header_bytes least) header_of_lem ∙ header-part least four eight s x.bytes (omega (arith, long)) x.name x.spare

    directory-is : slots_bytes (directory least (decode least s).slots) ≡ take (256 * least) (drop (64 * least) s)
    directory-is =
        let n : ℕ = 4 * (64 * least - r) in
        let a : 512 * least ≡ 8 * (64 * least) = omega arith in
        let b : 512 * least + 32 * r ≡ 8 * (64 * least + 4 * r) = omega arith in
        let c : 2560 * least - (512 * least + 32 * r) ≡ 8 * n = omega (arith, x.roots) in
        let d : 4 * r + n ≡ 256 * least = omega (arith, x.roots) in
        let z : field s (8 * (64 * least + 4 * r)) (8 * n) ≡ 0
        = ap (λ (y : ℕ). field s y (8 * n)) (sym b) ∙ ap (field s (512 * least + 32 * r)) (sym c) ∙ x.rest in
        let used : slots_bytes (read_slots s (512 * least) r) ≡ take (4 * r) (drop (64 * least) s)
        = ap (λ (y : ℕ). slots_bytes (read_slots s y r)) a ∙ slots-part s (64 * least) r x.bytes (omega (arith, long, x.roots)) in
        ap (λ (y : List Slot). slots_bytes (directory least y)) (slots-of least s) ∙ directory-bytes least (read_slots s (512 * least) r)
        ∙ rw (length-slots s (512 * least) r, used, ← zero-part s (64 * least + 4 * r) n x.bytes (omega (arith, long, x.roots)) z)
        (two-parts s (64 * least) (4 * r) n ∙ ap (λ (y : ℕ). take y (drop (64 * least) s)) d)

    pub encode-decode : encode least (decode least s) ≡ s
    unfolding encode directory
    encode-decode =
        let k : ℕ = (size - 5) * (64 * least) in
        let five : 5 * (64 * least) ≡ 64 * least + 256 * least = omega arith in
        let p : pages_bytes least (drop 5 (decode least s).pages) ≡ take k (drop (64 * least + 256 * least) s)
        = ap (pages_bytes least) (behind least s ∙ ap (λ (y : ℕ). read_pages least s 5 (y - 5)) size-of)
        ∙ pages-part 5 (size - 5) (λ m l h. x.clean m l (omega (arith, x.six))) ∙ ap (λ (y : ℕ). take k (drop y s)) five in
        let n : size ≡ size - 5 + 5 = omega (arith, x.six) in
        let q : size * (64 * least) ≡ k + 5 * (64 * least) = ap (λ (y : ℕ). y * (64 * least)) n ∙ add-mul (size - 5) 5 (64 * least) in
        let whole : length s ≤ 64 * least + (256 * least + k) = omega (arith, x.whole) in
        let e1 : take (256 * least) (drop (64 * least) s) ++ take k (drop (64 * least + 256 * least) s)
        ≡ take (256 * least + k) (drop (64 * least) s) = two-parts s (64 * least) (256 * least) k in
        let zero : 64 * least ≡ 0 + 64 * least = omega arith in
        let e2 : take (64 * least) (drop 0 s) ++ take (256 * least + k) (drop (64 * least) s)
        ≡ take (64 * least + (256 * least + k)) (drop 0 s)
        = ap (λ (y : ℕ). take (64 * least) (drop 0 s) ++ take (256 * least + k) (drop y s)) zero
        ∙ two-parts s 0 (64 * least) (256 * least + k) in
        rw (front-is, directory-is, p, e1, e2) (take_all (64 * least + (256 * least + k)) s whole)
