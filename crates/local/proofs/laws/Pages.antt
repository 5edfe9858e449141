-- Laws of rule 1 for zero bits, entries and pages, in the order in which the code tests them. Assumes nothing.
use Prim.Native.Nat.{ℕ, zero, suc, ◌+◌, ◌*◌, ◌-◌, ◌<◌, ◌≤◌, ◌^◌}
use mathlib.Core.Bool.{Bool, true, false, ◌&&◌, ◌||◌, and-true, and_assoc}
use mathlib.Core.Logic.{⊎_elim}
use mathlib.Core.Path.{◌≡◌, refl, ap, sym, ◌∙◌}
use mathlib.Core.List.{List}
use native.Mathlib.Omega.{arith}
use native.Mathlib.Nat.{mul-le-mul_right, one-mul, zero-mul}
use lib.Pow.{pow_pos}
use lib.Dec.{leb, eqb}
use borrow.Author.Tests.{eq-eqb, ne_eqb, le-leb, leb-true, leb-false}
use Rattle.bits.proofs.laws.Laws.{field-split}
use Rattle.model.specs.declared.Entry.{Entry}
use Rattle.model.specs.Basic.{all, is_empty, in_order, pick}
use Rattle.model.specs.Entry.{before}
use Rattle.model.specs.Sound.{span_ok, entry_ok, page_fine}
use Rattle.model.specs.Field.{field}
use Rattle.model.specs.Layout.{page_of, read_entry, read_entries, decode_page, read_pages}
use Rattle.model.specs.Clean.{zero_from, spare_at, clean_page, clean_pages}
use Rattle.model.specs.Inner.{first_ok}
use Rattle.model.proofs.lists.Lists.{both_true}
use Rattle.model.proofs.lists.Rising.{in-order-step, before-carries}
use Rattle.model.specs.Limits.{Edition}
use Rattle.model.specs.declared.Limits.{Limits}
use Rattle.page.proofs.laws.Editions.{bytes-is, room-is}
use Rattle.page.specs.Head.{read_head}
use Rattle.page.specs.declared.Head.{Head}
use Rattle.std.specs.List.{list_all, range_with_len}
use Rattle.model.proofs.lists.Bools.{same?}
use Rattle.page.proofs.laws.Read.{level-of, start_of, end-of, count-of, entries-of, length-entries, entries-step, entries-end}
use Rattle.local.specs.Local.{entry_test, entries_ok, pages_fine}
use Rattle.local.proofs.laws.Loops.{and-four}

-- ---- zero bits

-- w bits more that are zero
pub zero_more : (s : List ℕ) (a b w : ℕ) → a + w ≤ b → field s a w ≡ 0 → zero_from s a b ≡ zero_from s (a + w) b
zero_more s a b w h e =
    let n : b - a ≡ w + (b - (a + w)) = omega arith in
    let z : field s a w * 2 ^ (b - (a + w)) ≡ 0 = rw e (zero-mul (2 ^ (b - (a + w)))) in
    let q : field s a w * 2 ^ (b - (a + w)) + field s (a + w) (b - (a + w)) ≡ field s (a + w) (b - (a + w)) = omega arith in
    rw (n, field-split s a w (b - (a + w)), q)

pub zero-not : (s : List ℕ) (a b w : ℕ) → a + w ≤ b → (field s a w ≡ 0 → ⊥) → zero_from s a b ≡ false
zero-not s a b w h e =
    let n : b - a ≡ w + (b - (a + w)) = omega arith in
    let m : ℕ = b - (a + w) in
    let p : 0 < 2 ^ m = pow_pos m in
    let q : 1 * 2 ^ m ≤ field s a w * 2 ^ m = mul-le-mul_right (2 ^ m) (omega arith) in
    rw (n, field-split s a w (b - (a + w))) (ne_eqb (field s a w * 2 ^ m + field s (a + w) m) 0 (λ k. omega (arith, one-mul (2 ^ m))))

-- ---- the level in the front

level-read : (least : ℕ) (p : List ℕ) → field p 0 4 ≡ (read_head least p).level
unfolding read_head
level-read least p = refl

-- ---- entries

module _ (l size level : ℕ) (p : List ℕ) (i n : ℕ) where
  pub entries-ok-step : i < n
      → entries_ok l size level (read_entries p (128 + 96 * i) (n - i))
      ≡ (entry_ok l size level (read_entry p (128 + 96 * i))
      && (first_ok before (read_entry p (128 + 96 * i)) (read_entries p (128 + 96 * (i + 1)) (n - (i + 1)))
      && entries_ok l size level (read_entries p (128 + 96 * (i + 1)) (n - (i + 1)))))
  entries-ok-step h =
      let e : Entry = read_entry p (128 + 96 * i) in
      let es : List Entry = read_entries p (128 + 96 * (i + 1)) (n - (i + 1)) in
      ap (entries_ok l size level) (entries-step p i n h)
      ∙ ap (λ (b : Bool). b && (entry_ok l size level e && all (entry_ok l size level) es)) (in-order-step before before-carries e es)
      ∙ and-four (first_ok before e es) (in_order before es) (entry_ok l size level e) (all (entry_ok l size level) es)

  pub entries-ok-end : n ≤ i → entries_ok l size level (read_entries p (128 + 96 * i) (n - i)) ≡ true
  entries-ok-end h = ap (entries_ok l size level) (entries-end p (128 + 96 * i) i n h)

-- the entry behind e, if there is one
pub next-is : (p : List ℕ) (e : Entry) (i n : ℕ) → first_ok before e (read_entries p (128 + 96 * i) (n - i))
    ≡ (leb n i || before e (read_entry p (128 + 96 * i)))
next-is p e i n = at (leb n i) refl
  where
    at : (b : Bool) → leb n i ≡ b
        → first_ok before e (read_entries p (128 + 96 * i) (n - i)) ≡ (b || before e (read_entry p (128 + 96 * i)))
    at true q = ap (first_ok before e) (entries-end p (128 + 96 * i) i n (leb-true n i q))
    at false q = ap (first_ok before e) (entries-step p i n (leb-false n i q))

-- entry i, as it was read
pub test-is : (l size level : ℕ) (p : List ℕ) (n i : ℕ) (e : Entry) → e ≡ read_entry p (128 + 96 * i) → entry_test l size level p n i
    ≡ (entry_ok l size level e && (leb n (i + 1) || before e (read_entry p (128 + 96 * (i + 1)))))
test-is l size level p n i e is =
    rw is (ap (λ (b : Bool). entry_ok l size level (read_entry p (128 + 96 * i)) && b) (next-is p (read_entry p (128 + 96 * i)) (i + 1) n))

-- each is read in turn
module _ (l size level : ℕ) (p : List ℕ) (n : ℕ) where
  entries-ok-from : (k i : ℕ) → n - i ≡ k
      → list_all (entry_test l size level p n) (range_with_len i k) ≡ entries_ok l size level (read_entries p (128 + 96 * i) (n - i))
  entries-ok-from zero i e = sym (entries-ok-end l size level p i n (omega (arith, e)))
  entries-ok-from (suc k) i e =
      let x = read_entry p (128 + 96 * i) in
      let xs = read_entries p (128 + 96 * (i + 1)) (n - (i + 1)) in
      ap (λ (b : Bool). entry_test l size level p n i && b) (entries-ok-from k (i + 1) (omega (arith, e)))
      ∙ and_assoc (entry_ok l size level x) (first_ok before x xs) (entries_ok l size level xs)
      ∙ sym (entries-ok-step l size level p i n (omega (arith, e)))

  pub entries-ok-all : list_all (entry_test l size level p n) (range_with_len 0 n) ≡ entries_ok l size level (read_entries p 128 n)
  entries-ok-all = let a : 128 + 96 * 0 ≡ 128 = omega arith in let b : n - 0 ≡ n = omega arith in rw (a, b) at (entries-ok-from n 0 b)

-- ---- one page

empty-count : (p : List ℕ) (o n : ℕ) → is_empty (read_entries p o n) ≡ eqb n 0
unfolding read_entries
empty-count p o zero = refl
empty-count p o (suc n) = sym (ne_eqb (suc n) 0 (λ e. omega arith))

module _ (least l size : ℕ) (p : List ℕ) where
  pub fine-free : (read_head least p).level ≡ 0 → page_fine least l size (decode_page least p)
      ≡ (eqb (read_head least p).start 0 && eqb (read_head least p).end 0 && eqb (read_head least p).count 0)
  fine-free a = rw (level-of least p, a, start_of least p, end-of least p, entries-of least p, empty-count p 128 (read_head least p).count)

  pub fine-used : ((read_head least p).level ≡ 0 → ⊥) → page_fine least l size (decode_page least p)
      ≡ ((leb (read_head least p).level 7 && leb (read_head least p).count (5 * least)
      && span_ok l (read_head least p).start (read_head least p).end)
      && entries_ok l size (read_head least p).level (read_entries p 128 (read_head least p).count))
  fine-used a =
      let es : List Entry = read_entries p 128 (read_head least p).count in
      rw (
        level-of least p,
        ne_eqb (read_head least p).level 0 a,
        start_of least p,
        end-of least p,
        entries-of least p,
        length-entries p 128 (read_head least p).count,
      )
      (and_assoc (leb (read_head least p).level 7 && leb (read_head least p).count (5 * least)
      && span_ok l (read_head least p).start (read_head least p).end) (in_order before es)
      (all (entry_ok l size (read_head least p).level) es))

  -- of a page that has no more entries than room, in the order in which the code tests it
  pub fine-is : (h : Head) → h ≡ read_head least p → (read_head least p).count ≤ 5 * least → page_fine least l size (decode_page least p)
      ≡ pick (eqb h.level 0) (eqb h.start 0 && eqb h.end 0 && eqb h.count 0)
      (leb h.level 7 && span_ok l h.start h.end && entries_ok l size h.level (read_entries p 128 h.count))
  fine-is h is c = ⊎_elim
      (λ a. rw (is, eq-eqb (read_head least p).level 0 a) (fine-free a))
      (λ a. rw (is, ne_eqb (read_head least p).level 0 a)
      (fine-used a ∙ rw (le-leb (read_head least p).count (5 * least) c, and-true (leb (read_head least p).level 7))))
      (same? (read_head least p).level 0)

pub clean-is : {l : Limits} → Edition l → (p : List ℕ) (h : Head) → h ≡ read_head l.least p → clean_page l.least p
    ≡ (leb h.count l.room && zero_from p (spare_at l.least h.level) 128 && zero_from p (128 + 96 * h.count) (8 * l.bytes))
unfolding clean_page
clean-is {l} d p h is =
    let e : 8 * l.bytes ≡ 512 * l.least = omega (arith, bytes-is d) in
    rw (is, room-is d, e, count-of l.least p, level-read l.least p)
    (sym (and_assoc (leb (read_head l.least p).count (5 * l.least)) (zero_from p (spare_at l.least (read_head l.least p).level) 128)
    (zero_from p (128 + 96 * (read_head l.least p).count) (512 * l.least))))

pub clean-count : (least : ℕ) (p : List ℕ) → clean_page least p ≡ true → (read_head least p).count ≤ 5 * least
unfolding clean_page
clean-count least p e =
    leb-true (read_head least p).count (5 * least)
    (both_true (leb (read_head least p).count (5 * least))
    (zero_from p (spare_at least (field p 0 4)) 128 && zero_from p (128 + 96 * (read_head least p).count) (512 * least))
    (rw (count-of least p) at e)).0

-- ---- all pages

four : (a b c d : Bool) → ((a && b) && (c && d)) ≡ ((a && c) && (b && d))
four true true true d = refl
four true true false d = refl
four true false true d = refl
four true false false d = refl
four false b c d = refl

-- each is read in turn
module _ (least l size : ℕ) (s : List ℕ) where
  abbrev pub page_test : ℕ → Bool
  page_test n = clean_page least (page_of least s n) && page_fine least l size (decode_page least (page_of least s n))

  pub pages-fine-all : (n k : ℕ) → list_all page_test (range_with_len n k) ≡ pages_fine least l size s n k
  unfolding pages_fine clean_pages read_pages
  pages-fine-all n zero = refl
  pages-fine-all n (suc k) =
      ap (λ (b : Bool). page_test n && b) (pages-fine-all (n + 1) k)
      ∙ sym (four (clean_page least (page_of least s n)) (clean_pages least s (n + 1) k)
      (page_fine least l size (decode_page least (page_of least s n))) (all (page_fine least l size) (read_pages least s (n + 1) k)))
