-- Tests over what is read of bytes, one step at a time for a loop, and at a place. Assumes nothing.
use Prim.Native.Nat.{ℕ, zero, suc, ◌+◌, ◌*◌, ◌-◌, ◌<◌, ◌≤◌}
use mathlib.Core.Bool.{Bool, true, false, ◌&&◌}
use mathlib.Core.Path.{◌≡◌, refl, ap, ap₂, sym, ◌∙◌}
use mathlib.Core.List.{List}
use mathlib.Core.Logic.{⊎_elim}
use native.Mathlib.Omega.{arith}
use Rattle.std.specs.List.{list_all, range_with_len}
use Rattle.model.specs.Basic.{all}
use Rattle.model.specs.declared.Entry.{Entry}
use Rattle.model.specs.declared.Slot.{Slot}
use Rattle.model.specs.Page.{Page, free}
use Rattle.model.specs.Layout.{page_of, decode_page, read_entry, read_entries, read_slot, read_slots, read_pages, unused, no_slot}
use Rattle.model.specs.Clean.{clean_page, clean_pages}
use Rattle.model.proofs.lists.Lists.{both_true}
use Rattle.model.proofs.lists.Members.{all-at}
use Rattle.model.proofs.lists.Bools.{same?}
use Rattle.page.proofs.laws.Read.{length-entries, entries_at, entries-step, entries-end}
use Rattle.store.proofs.laws.Read.{length-slots, slots_at, length-pages, pages-at, pages-step, pages-end}

-- two tests over a list, both taken one step
pub and-four : (a b c d : Bool) → ((a && b) && (c && d)) ≡ (c && (a && (b && d)))
and-four true b true d = refl
and-four true true false d = refl
and-four true false false d = refl
and-four false b true d = refl
and-four false b false d = refl

-- two tests that are one on the numbers of a range
pub list-all-same : (f g : ℕ → Bool) (a n : ℕ) → ((i : ℕ) → a ≤ i → i < a + n → f i ≡ g i)
    → list_all f (range_with_len a n) ≡ list_all g (range_with_len a n)
list-all-same f g a zero h = refl
list-all-same f g a (suc n) h =
    ap₂ (λ (x y : Bool). x && y) (h a (omega arith) (omega arith))
    (list-all-same f g (a + 1) n (λ i x y. h i (omega arith) (omega arith)))

-- ---- entries

module _ (f : Entry → Bool) (p : List ℕ) where
  -- each is read in turn
  entries-from : (o a n : ℕ) → list_all (λ (i : ℕ). f (read_entry p (o + 96 * i))) (range_with_len a n) ≡ all f (read_entries p (o + 96 * a) n)
  unfolding read_entries
  entries-from o a zero = refl
  entries-from o a (suc n) =
      let e : o + 96 * a + 96 ≡ o + 96 * (a + 1) = omega arith in
      rw e (ap (λ (b : Bool). f (read_entry p (o + 96 * a)) && b) (entries-from o (a + 1) n))

  pub entries-all : (n : ℕ) → list_all (λ (i : ℕ). f (read_entry p (128 + 96 * i))) (range_with_len 0 n) ≡ all f (read_entries p 128 n)
  entries-all n = entries-from 128 0 n

  pub all-entries-step : (i n : ℕ) → i < n → all f (read_entries p (128 + 96 * i) (n - i))
      ≡ (f (read_entry p (128 + 96 * i)) && all f (read_entries p (128 + 96 * (i + 1)) (n - (i + 1))))
  all-entries-step i n h = ap (all f) (entries-step p i n h)

  pub all-entries-end : (i n : ℕ) → n ≤ i → all f (read_entries p (128 + 96 * i) (n - i)) ≡ true
  all-entries-end i n h = ap (all f) (entries-end p (128 + 96 * i) i n h)

  pub entry-of-all : (n i : ℕ) → all f (read_entries p 128 n) ≡ true → i < n → f (read_entry p (128 + 96 * i)) ≡ true
  entry-of-all n i e h =
      ap f (sym (entries_at p 128 n i h)) ∙ all-at f unused (read_entries p 128 n) e i (omega (arith, length-entries p 128 n))

-- ---- slots

module _ (f : Slot → Bool) (s : List ℕ) (o : ℕ) where
  -- each is read in turn, from slot a on
  pub slots-all : (a n : ℕ) → list_all (λ (i : ℕ). f (read_slot s (o + 32 * i))) (range_with_len a n) ≡ all f (read_slots s (o + 32 * a) n)
  unfolding read_slots
  slots-all a zero = refl
  slots-all a (suc n) =
      let e : o + 32 * a + 32 ≡ o + 32 * (a + 1) = omega arith in
      rw e (ap (λ (b : Bool). f (read_slot s (o + 32 * a)) && b) (slots-all (a + 1) n))

  pub slots-first : (n : ℕ) → list_all (λ (i : ℕ). f (read_slot s (o + 32 * i))) (range_with_len 0 n) ≡ all f (read_slots s o n)
  slots-first n = let e : o + 32 * 0 ≡ o = omega arith in rw e at (slots-all 0 n)

  pub slot-of-all : (n i : ℕ) → all f (read_slots s o n) ≡ true → i < n → f (read_slot s (o + 32 * i)) ≡ true
  slot-of-all n i e h = ap f (sym (slots_at s o n i h)) ∙ all-at f no_slot (read_slots s o n) e i (omega (arith, length-slots s o n))

-- ---- pages

module _ (least : ℕ) (s : List ℕ) where
  -- each is read in turn, from page n on
  pub pages-all : (f : Page → Bool) (n k : ℕ) → list_all (λ (i : ℕ). f (decode_page least (page_of least s i))) (range_with_len n k)
      ≡ all f (read_pages least s n k)
  unfolding read_pages
  pages-all f n zero = refl
  pages-all f n (suc k) = ap (λ (b : Bool). f (decode_page least (page_of least s n)) && b) (pages-all f (n + 1) k)

  pub all-pages-step : (f : Page → Bool) (n m : ℕ) → n < m
      → all f (read_pages least s n (m - n)) ≡ (f (decode_page least (page_of least s n)) && all f (read_pages least s (n + 1) (m - (n + 1))))
  all-pages-step f n m h = ap (all f) (pages-step least s n m h)

  pub all-pages-end : (f : Page → Bool) (n m : ℕ) → m ≤ n → all f (read_pages least s n (m - n)) ≡ true
  all-pages-end f n m h = ap (all f) (pages-end least s n m h)

  pub page-of-all : (f : Page → Bool) (n k m : ℕ) → all f (read_pages least s n k) ≡ true → n ≤ m → m < n + k
      → f (decode_page least (page_of least s m)) ≡ true
  page-of-all f n k m e l h =
      let i : n + (m - n) ≡ m = omega arith in
      ap (λ (x : ℕ). f (decode_page least (page_of least s x))) (sym i) ∙ ap f (sym (pages-at least s n k (m - n) (omega arith)))
      ∙ all-at f free (read_pages least s n k) e (m - n) (omega (arith, length-pages least s n k))

  pub clean_at : (n k m : ℕ) → clean_pages least s n k ≡ true → n ≤ m → m < n + k → clean_page least (page_of least s m) ≡ true
  unfolding clean_pages
  clean_at n zero m e l h = absurd (omega arith)
  clean_at n (suc k) m e l h =
      let (here, rest) = both_true (clean_page least (page_of least s n)) (clean_pages least s (n + 1) k) e in
      ⊎_elim (λ q. rw q here) (λ q. clean_at (n + 1) k m rest (omega arith) (omega arith)) (same? m n)
