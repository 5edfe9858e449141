-- Laws about store/specs/Header. Assumes nothing.
use Prim.Native.Nat.{ℕ, zero, suc, ◌+◌, ◌*◌, ◌-◌, ◌^◌, ◌<◌, ◌≤◌}
use mathlib.Core.Path.{◌≡◌, refl, ap, sym, ◌∙◌}
use mathlib.Core.Bool.{Bool, true, false}
use mathlib.Core.List.{List, ◌++◌}
use native.Mathlib.Omega.{arith}
use lib.Dec.{leb, eqb}
use lib.ListN.{length, take, drop}
use borrow.Author.Tests.{le-leb, lt-leb}
use Rattle.bits.proofs.laws.Laws.{field_lt}
use Rattle.bits.proofs.laws.Append.{field-left, field-part, bit-part}
use Rattle.bits.proofs.laws.Lay.{Shows, Fit, total, length-lay, bytes-lay, length-packed, bytes_packed, packed-shows, packed-whole}
use Rattle.bits.proofs.laws.Lay.{zero-at, part_bytes, part_length, bytes-zeros, length-zeros}
use Rattle.bits.proofs.laws.Over.{lay-left, lay-append, lay-twice}
use Rattle.model.specs.declared.Header.{Header}
use Rattle.model.specs.Basic.{pick}
use Rattle.model.specs.Limits.{root_bits, oldest_bits, edition_of}
use Rattle.model.specs.Field.{field, Part, Bytes, lay, zeros, packed}
use Rattle.model.specs.Layout.{bit, header_parts, header_bytes, read_header}
use Rattle.model.proofs.lists.Bools.{bit-back}
use Rattle.page.proofs.laws.Editions.{RootWidth, root-bits, Aged, oldest-bits}
use Rattle.store.proofs.laws.Read.{pages-lt, current-lt, roots-lt, oldest-lt}
use Rattle.store.specs.Header.{named_by, value_parts, put_header, header_by, HeaderFits}

abbrev pub name_parts : ℕ → List Part
name_parts least = named_by (edition_of least)

pub header-fits : (least : ℕ) (s : List ℕ) → HeaderFits least (read_header least s)
header-fits least s =
    record { pages = pages-lt least s; current = current-lt least s; roots = roots-lt least s; oldest = oldest-lt least s }

-- read by the widths of edition 1, and of edition 2
pub header-first : (least : ℕ) (s : List ℕ) → least ≤ 4 → header_by 9 0 s ≡ read_header least s
unfolding header_by read_header
header-first least s e = rw (le-leb least 4 e)

pub header-second : (least : ℕ) (s : List ℕ) → 4 < least → header_by 10 20 s ≡ read_header least s
unfolding header_by read_header
header-second least s e = rw (lt-leb least 4 e)

pub bit-small : (b : Bool) → bit b < 2 ^ 1
bit-small true = omega arith
bit-small false = omega arith

bit-field : (s : List ℕ) (at : ℕ) → bit (eqb (field s at 1) 1) ≡ field s at 1
bit-field s at = go (field s at 1) (field_lt s at 1)
  where
    go : (n : ℕ) → n < 2 ^ 1 → bit (eqb n 1) ≡ n
    go zero h = refl
    go (suc zero) h = refl
    go (suc (suc n)) h = absurd (omega arith)

pub edition-small : (least : ℕ) → edition_of least < 2 ^ 8
edition-small least = go (leb least 4)
  where
    go : (b : Bool) → pick b 1 2 < 2 ^ 8
    go true = omega arith
    go false = omega arith

pub header-length : (least : ℕ) (h : Header) → length (header_bytes least h) ≡ 64 * least
unfolding header_bytes
header-length least h = length-packed (64 * least) (header_parts least h)

module _ (least : ℕ) (four : 4 ≤ least) (eight : least ≤ 8) where
  width : RootWidth least (root_bits least)
  width = root-bits least eight

  age : Aged (oldest_bits least)
  age = oldest-bits least

  total-is : (h : Header) → total (header_parts least h) ≡ 74 + root_bits least + oldest_bits least
  total-is h = omega arith

  values-fit : (h : Header) → HeaderFits least h → Fit (value_parts least h)
  values-fit h f = (f.pages, (f.current, (bit-small h.opened, (f.roots, (f.oldest, refl)))))

  -- the header's page with its name alone
  named : List ℕ
  named = lay (zeros (64 * least)) 0 (name_parts least)

  named-length : length named ≡ 64 * least
  unfolding named
  named-length = length-lay (zeros (64 * least)) 0 (name_parts least) ∙ length-zeros (64 * least)

  named-bytes : Bytes named
  unfolding named
  named-bytes = bytes-lay (zeros (64 * least)) 0 (name_parts least) (bytes-zeros (64 * least)) (omega (arith, length-zeros (64 * least)))

  pub header_is : (h : Header) → header_bytes least h ≡ put_header least (lay (zeros (64 * least)) 0 (name_parts least)) h
  unfolding header_bytes put_header packed
  header_is h = lay-append (zeros (64 * least)) 0 (name_parts least) (value_parts least h)

  pub header-put : (g h : Header) (f : List ℕ) → HeaderFits least h
      → put_header least (header_bytes least g ++ f) h ≡ header_bytes least h ++ f
  unfolding put_header named
  header-put g h f z =
      let a : List ℕ = lay named 40 (value_parts least g) in
      let n : length a ≡ 64 * least = length-lay named 40 (value_parts least g) ∙ named-length in
      rw (header_is g, header_is h)
      (lay-left a f 40 (value_parts least h) (omega (arith, width, age))
      ∙ ap (λ (x : List ℕ). x ++ f)
      (lay-twice named 40 (value_parts least g) (value_parts least h) named-bytes (omega (arith, width, age, named-length)) refl
      (values-fit h z)))

  pub header-bytes : (h : Header) → Bytes (header_bytes least h)
  unfolding header_bytes
  header-bytes h = bytes_packed (64 * least) (header_parts least h) (omega (arith, total-is h, width, age))

  pub header-shows : (h : Header) → HeaderFits least h → Shows (header_bytes least h) 0 (header_parts least h)
  unfolding header_bytes
  header-shows h z =
      packed-shows (64 * least) (header_parts least h) (omega (arith, total-is h, width, age))
      (omega arith, (omega arith, (omega arith, (omega arith, (edition-small least, values-fit h z)))))

  pub header_read : (h : Header) (f : List ℕ) → HeaderFits least h → read_header least (header_bytes least h ++ f) ≡ h
  unfolding header_bytes read_header
  header_read h f z =
      let t : List ℕ = packed (64 * least) (header_parts least h) in
      let n : length t ≡ 64 * least = length-packed (64 * least) (header_parts least h) in
      let w : RootWidth least (root_bits least) = width in
      let s : Shows t 0 (header_parts least h) = header-shows h z in
      let v = s.1.1.1.1.1 in
      let a : field (t ++ f) 40 13 ≡ h.pages = field-left t f 40 13 (omega arith) ∙ v.0 in
      let b : field (t ++ f) 53 20 ≡ h.current = field-left t f 53 20 (omega arith) ∙ v.1.0 in
      let c : eqb (field (t ++ f) 73 1) 1 ≡ h.opened = ap (λ (x : ℕ). eqb x 1) (field-left t f 73 1 (omega arith) ∙ v.1.1.0)
      ∙ bit-back h.opened in
      let g : Aged (oldest_bits least) = age in
      let d : field (t ++ f) 74 (root_bits least) ≡ h.roots = field-left t f 74 (root_bits least) (omega arith) ∙ v.1.1.1.0 in
      let e : field (t ++ f) (74 + root_bits least) (oldest_bits least) ≡ h.oldest
      = field-left t f (74 + root_bits least) (oldest_bits least) (omega arith) ∙ v.1.1.1.1.0 in
      λ i. record { pages = a i; current = b i; opened = c i; roots = d i; oldest = e i }

  -- a page 0 with the name, whose spare bits are zero, is that of the header that is read
  pub header-part : (s : List ℕ) → Bytes s → 64 * least ≤ length s → Shows s 0 (name_parts least)
      → field s (74 + root_bits least + oldest_bits least) (512 * least - (74 + root_bits least + oldest_bits least)) ≡ 0
      → header_bytes least (read_header least s) ≡ take (64 * least) (drop 0 s)
  unfolding header_bytes read_header
  header-part s b len names e =
      let h : Header = read_header least s in
      let t : List ℕ = take (64 * least) (drop 0 s) in
      let w : RootWidth least (root_bits least) = width in
      let g : Aged (oldest_bits least) = age in
      let at : (a n : ℕ) → a + n ≤ 512 * least → field t a n ≡ field s a n
      = λ a n l. field-part s 0 (64 * least) a n (omega arith) ∙ ap (λ (y : ℕ). field s y n) (omega arith) in
      packed-whole t (64 * least) (header_parts least h) (part_bytes s 0 (64 * least) b) (part_length s 0 (64 * least) (omega arith))
      (omega (arith, total-is h)) (
        at 0 8 (omega arith) ∙ names.0,
        (
          at 8 8 (omega arith) ∙ names.1.0,
          (
            at 16 8 (omega arith) ∙ names.1.1.0,
            (
              at 24 8 (omega arith) ∙ names.1.1.1.0,
              (
                at 32 8 (omega arith) ∙ names.1.1.1.1.0,
                (
                  at 40 13 (omega arith),
                  (
                    at 53 20 (omega arith),
                    (
                      at 73 1 (omega arith) ∙ sym (bit-field s 73),
                      (at 74 (root_bits least) (omega arith), (at (74 + root_bits least) (oldest_bits least) (omega arith), refl)),
                    ),
                  ),
                ),
              ),
            ),
          ),
        ),
      )
      (λ i l k. bit-part s 0 (64 * least) i (omega arith)
      ∙ zero-at s (74 + root_bits least + oldest_bits least) (512 * least - (74 + root_bits least + oldest_bits least)) e (8 * 0 + i)
      (omega (arith, total-is h)) (omega arith))
