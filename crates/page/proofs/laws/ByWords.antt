-- An entry by three words of 32 bits: its key and 8 bits of its start, the other 12 and its end, its value. Assumes nothing.
use Prim.Native.Nat.{ℕ, ◌+◌, ◌*◌, ◌/◌, ◌%◌, ◌<◌}
use native.Mathlib.Omega.{arith}
use mathlib.Core.Path.{◌≡◌, ap, ap₂, sym, ◌∙◌}
use mathlib.Core.List.{List}
use lib.Pow.{high, low}
use Rattle.model.specs.declared.Entry.{Entry}
use Rattle.model.specs.Field.{field, put_field, lay}
use Rattle.model.specs.Layout.{entry_parts, read_entry}
use Rattle.bits.proofs.laws.Laws.{field_lt, field-split}
use Rattle.bits.proofs.laws.Whole.{put-split}
use Rattle.page.specs.Read.{FieldsFit}

-- ---- read

module _ (p : List ℕ) (o : ℕ) where
  first-is : field p o 32 ≡ field p o 24 * 256 + field p (o + 24) 8
  first-is = field-split p o 24 8

  second_is : field p (o + 32) 32 ≡ field p (o + 32) 12 * 1048576 + field p (o + 44) 20
  second_is = let e : o + 32 + 12 ≡ o + 44 = omega arith in rw e at (field-split p (o + 32) 12 20)

  between_is : field p (o + 24) 20 ≡ field p (o + 24) 8 * 4096 + field p (o + 32) 12
  between_is = let e : o + 24 + 8 ≡ o + 32 = omega arith in rw e at (field-split p (o + 24) 8 12)

  key-is : field p o 32 / 256 ≡ field p o 24
  key-is = ap (λ (x : ℕ). x / 256) first-is ∙ high (field p o 24) 8 (field_lt p (o + 24) 8)

  start_is : field p o 32 % 256 * 4096 + field p (o + 32) 32 / 1048576 ≡ field p (o + 24) 20
  start_is =
      let x : field p o 32 % 256 ≡ field p (o + 24) 8 = ap (λ (y : ℕ). y % 256) first-is ∙ low (field p o 24) 8 (field_lt p (o + 24) 8) in
      let z : field p (o + 32) 32 / 1048576 ≡ field p (o + 32) 12 = ap (λ (y : ℕ). y / 1048576) second_is
      ∙ high (field p (o + 32) 12) 20 (field_lt p (o + 44) 20) in
      ap₂ (λ (y w : ℕ). y * 4096 + w) x z ∙ sym between_is

  end_is : field p (o + 32) 32 % 1048576 ≡ field p (o + 44) 20
  end_is = ap (λ (x : ℕ). x % 1048576) second_is ∙ low (field p (o + 32) 12) 20 (field_lt p (o + 44) 20)

  -- the byte that ends its first word, and its second word: its start and then its end, as one number
  pub span-is : field p (o + 24) 8 * 4294967296 + field p (o + 32) 32 ≡ (read_entry p o).start * 1048576 + (read_entry p o).end
  unfolding read_entry
  span-is = omega (arith, between_is, second_is)

  abbrev pub by_words : ℕ → ℕ → ℕ → ℕ → Entry
  by_words a b start value = record { key = a / 256; start = start; end = b % 1048576; value = value }

  pub words-entry : (a b start value : ℕ) → a ≡ field p o 32 → b ≡ field p (o + 32) 32 → start ≡ a % 256 * 4096 + b / 1048576
      → value ≡ field p (o + 64) 32
      → by_words a b start value ≡ read_entry p o
  unfolding read_entry
  words-entry a b start value e f g h =
      let k : a / 256 ≡ field p o 24 = ap (λ (x : ℕ). x / 256) e ∙ key-is in
      let s : start ≡ field p (o + 24) 20 = g ∙ ap₂ (λ (x y : ℕ). x % 256 * 4096 + y / 1048576) e f ∙ start_is in
      let n : b % 1048576 ≡ field p (o + 44) 20 = ap (λ (x : ℕ). x % 1048576) f ∙ end_is in
      λ i. record { key = k i; start = s i; end = n i; value = h i }

-- ---- written

module _ (p : List ℕ) (o : ℕ) (e : Entry) (z : FieldsFit e) where
  abbrev one : ℕ
  one = e.key * 256 + e.start / 4096

  abbrev two : ℕ
  two = e.start % 4096 * 1048576 + e.end

  eight : e.start / 4096 < 256
  eight = omega (arith, z.start)

  put_first : put_field p o 32 one ≡ put_field (put_field p o 24 e.key) (o + 24) 8 (e.start / 4096)
  put_first =
      put-split p o 24 8 one ∙ ap₂ (λ (x y : ℕ). put_field (put_field p o 24 x) (o + 24) 8 y) (high e.key 8 eight) (low e.key 8 eight)

  module _ (q : List ℕ) where
    put_second : put_field q (o + 32) 32 two ≡ put_field (put_field q (o + 32) 12 (e.start % 4096)) (o + 44) 20 e.end
    put_second =
        let h : o + 32 + 12 ≡ o + 44 = omega arith in
        rw h at (put-split q (o + 32) 12 20 two) ∙ ap₂ (λ (x y : ℕ). put_field (put_field q (o + 32) 12 x) (o + 44) 20 y)
        (high (e.start % 4096) 20 z.end) (low (e.start % 4096) 20 z.end)

    put-between : put_field q (o + 24) 20 e.start ≡ put_field (put_field q (o + 24) 8 (e.start / 4096)) (o + 32) 12 (e.start % 4096)
    put-between = let h : o + 24 + 8 ≡ o + 32 = omega arith in rw h at (put-split q (o + 24) 8 12 e.start)

  pub words-lay : (a b : ℕ) → a ≡ e.key * 256 + e.start / 4096 → b ≡ e.start % 4096 * 1048576 + e.end
      → put_field (put_field (put_field p o 32 a) (o + 32) 32 b) (o + 64) 32 e.value ≡ lay p o (entry_parts e)
  unfolding lay
  words-lay a b f g =
      let h : o + 24 + 20 ≡ o + 44 = omega arith in
      let k : o + 44 + 20 ≡ o + 64 = omega arith in
      let q : List ℕ = put_field p o 24 e.key in
      let x : put_field (put_field p o 32 a) (o + 32) 32 b ≡ put_field (put_field q (o + 24) 20 e.start) (o + 44) 20 e.end
      = ap₂ (λ (m n : ℕ). put_field (put_field p o 32 m) (o + 32) 32 n) f g ∙ put_second (put_field p o 32 one)
      ∙ ap (λ (t : List ℕ). put_field (put_field t (o + 32) 12 (e.start % 4096)) (o + 44) 20 e.end) put_first
      ∙ ap (λ (t : List ℕ). put_field t (o + 44) 20 e.end) (sym (put-between q)) in
      rw (h, k) (ap (λ (t : List ℕ). put_field t (o + 64) 32 e.value) x)
