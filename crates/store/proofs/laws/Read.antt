-- Laws of what is decoded. Assumes nothing.
use Prim.Native.Nat.{ℕ, zero, suc, ◌+◌, ◌*◌, ◌-◌, ◌<◌, ◌≤◌, ◌^◌}
use mathlib.Core.Path.{◌≡◌, refl, ap, ◌∙◌}
use mathlib.Core.List.{List, [], ◌∷◌}
use lib.ListN.{length, get_or, take, drop, replicate}
use native.Mathlib.Omega.{arith}
use native.Mathlib.Nat.{mul-div_left}
use Rattle.bits.proofs.laws.Laws.{field_lt}
use Rattle.model.specs.Limits.{root_bits, oldest_bits}
use Rattle.model.specs.Page.{free}
use Rattle.model.specs.Store.{page}
use Rattle.model.specs.Layout.{page_of, decode_page, read_header, read_slot, read_slots, read_pages, decode, size_of, no_slot}

-- ---- the number of pages

-- a length that is so many whole pages
pub size_is : (least size : ℕ) (s : List ℕ) → 0 < least → length s ≡ size * (64 * least) → size_of least s ≡ size
size_is least size s p h = rw h (mul-div_left size (omega arith))

-- ---- slots

pub length-slots : (s : List ℕ) (o n : ℕ) → length (read_slots s o n) ≡ n
unfolding read_slots
length-slots s o zero = refl
length-slots s o (suc n) = ap suc (length-slots s (o + 32) n)

pub slots_at : (s : List ℕ) (o n k : ℕ) → k < n → get_or (read_slots s o n) k no_slot ≡ read_slot s (o + 32 * k)
unfolding read_slots
slots_at s o zero k h = absurd (omega arith)
slots_at s o (suc n) zero h = let e : o + 32 * 0 ≡ o = omega arith in rw e
slots_at s o (suc n) (suc k) h = let e : o + 32 * suc k ≡ o + 32 + 32 * k = omega arith in rw e (slots_at s (o + 32) n k (omega arith))

-- those from slot i on, for a loop
pub slots-step : (s : List ℕ) (o i n : ℕ) → i < n
    → read_slots s (o + 32 * i) (n - i) ≡ read_slot s (o + 32 * i) ∷ read_slots s (o + 32 * (i + 1)) (n - (i + 1))
unfolding read_slots
slots-step s o i n h =
    let e : n - i ≡ suc (n - (i + 1)) = omega arith in
    let f : o + 32 * i + 32 ≡ o + 32 * (i + 1) = omega arith in
    rw (e, f)

pub slots_end : (s : List ℕ) (o i n : ℕ) → n ≤ i → read_slots s o (n - i) ≡ []
unfolding read_slots
slots_end s o i n h = let e : n - i ≡ 0 = omega arith in rw e

-- ---- pages

module _ (least : ℕ) (s : List ℕ) where
  pub length-pages : (n k : ℕ) → length (read_pages least s n k) ≡ k
  unfolding read_pages
  length-pages n zero = refl
  length-pages n (suc k) = ap suc (length-pages (n + 1) k)

  pub pages-at : (n k j : ℕ) → j < k → get_or (read_pages least s n k) j free ≡ decode_page least (page_of least s (n + j))
  unfolding read_pages
  pages-at n zero j h = absurd (omega arith)
  pages-at n (suc k) zero h = let e : n + 0 ≡ n = omega arith in rw e
  pages-at n (suc k) (suc j) h = let e : n + suc j ≡ n + 1 + j = omega arith in rw e (pages-at (n + 1) k j (omega arith))

  -- those from page n up to, not including, page m, for a loop
  pub pages-step : (n m : ℕ) → n < m → read_pages least s n (m - n)
      ≡ decode_page least (page_of least s n) ∷ read_pages least s (n + 1) (m - (n + 1))
  unfolding read_pages
  pages-step n m h = let e : m - n ≡ suc (m - (n + 1)) = omega arith in rw e

  pub pages-end : (n m : ℕ) → m ≤ n → read_pages least s n (m - n) ≡ []
  unfolding read_pages
  pages-end n m h = let e : m - n ≡ 0 = omega arith in rw e

  -- ---- the store

  pub count-pages : 5 ≤ size_of least s → length (decode least s).pages ≡ size_of least s
  unfolding decode
  count-pages h = omega (arith, length-pages 5 (size_of least s - 5))

  pub behind : drop 5 (decode least s).pages ≡ read_pages least s 5 (size_of least s - 5)
  unfolding decode
  behind = refl

  -- "page 0, header" and "pages 1 to 4" stand as free ones
  pub front-five : take 5 (decode least s).pages ≡ replicate 5 free
  unfolding decode
  front-five = refl

  pub front-free : (n : ℕ) → n < 5 → page (decode least s).pages n ≡ free
  unfolding decode
  front-free zero h = refl
  front-free (suc zero) h = refl
  front-free (suc (suc zero)) h = refl
  front-free (suc (suc (suc zero))) h = refl
  front-free (suc (suc (suc (suc zero)))) h = refl
  front-free (suc (suc (suc (suc (suc n))))) h = absurd (omega arith)

  pub page-at : (n : ℕ) → 5 ≤ n → n < size_of least s → page (decode least s).pages n ≡ decode_page least (page_of least s n)
  unfolding decode
  page-at n h l =
      let e : n ≡ suc (suc (suc (suc (suc (n - 5))))) = omega arith in
      let f : 5 + (n - 5) ≡ n = omega arith in
      ap (λ (k : ℕ). page (free ∷ free ∷ free ∷ free ∷ free ∷ read_pages least s 5 (size_of least s - 5)) k) e
      ∙ pages-at 5 (size_of least s - 5) (n - 5) (omega arith) ∙ ap (λ (k : ℕ). decode_page least (page_of least s k)) f

  pub current-of : (decode least s).current ≡ (read_header least s).current
  unfolding decode
  current-of = refl

  pub opened_of : (decode least s).opened ≡ (read_header least s).opened
  unfolding decode
  opened_of = refl

  pub oldest-of : (decode least s).oldest ≡ (read_header least s).oldest
  unfolding decode
  oldest-of = refl

  pub slots-of : (decode least s).slots ≡ read_slots s (512 * least) (read_header least s).roots
  unfolding decode
  slots-of = refl

  pub pages-lt : (read_header least s).pages < 2 ^ 13
  unfolding read_header
  pages-lt = field_lt s 40 13

  pub current-lt : (read_header least s).current < 2 ^ 20
  unfolding read_header
  current-lt = field_lt s 53 20

  pub roots-lt : (read_header least s).roots < 2 ^ root_bits least
  unfolding read_header
  roots-lt = field_lt s 74 (root_bits least)

  pub oldest-lt : (read_header least s).oldest < 2 ^ oldest_bits least
  unfolding read_header
  oldest-lt = field_lt s (74 + root_bits least) (oldest_bits least)

pub version-lt : (s : List ℕ) (o : ℕ) → (read_slot s o).version < 2 ^ 20
unfolding read_slot
version-lt s o = field_lt s o 20

pub root-lt : (s : List ℕ) (o : ℕ) → (read_slot s o).root < 2 ^ 12
unfolding read_slot
root-lt s o = field_lt s (o + 20) 12
