-- Laws about quick/specs/Sums. Assumes nothing.
use Prim.Native.Nat.{ℕ, zero, suc, ◌+◌, ◌*◌, ◌-◌, ◌<◌, ◌≤◌, max}
use mathlib.Core.Bool.{Bool, true, false, ◌&&◌, ◌||◌}
use mathlib.Core.Path.{◌≡◌, ap, sym, ◌∙◌}
use mathlib.Core.List.{List}
use mathlib.Core.Logic.{⊎_elim}
use native.Mathlib.Omega.{arith}
use lib.Dec.{leb, eqb}
use lib.ListN.{length, get_or, replicate, length-set, length-replicate, get_or-replicate}
use lib.Seq.{get_or-set_same, get_or-set_other}
use borrow.Author.Tests.{eq-eqb, ne_eqb}
use Rattle.model.specs.declared.Entry.{Entry}
use Rattle.model.specs.declared.Slot.{Slot}
use Rattle.model.specs.Basic.{pick}
use Rattle.model.specs.Layout.{page_of, decode_page, read_entry, read_entries, read_slot, read_slots, read_pages}
use Rattle.model.proofs.lists.Bools.{same?}
use Rattle.spans.specs.Quick.{upto}
use Rattle.page.specs.declared.Head.{Head}
use Rattle.page.specs.Head.{read_head}
use Rattle.page.proofs.laws.Read.{level-of, start_of, end-of, entries-of, read-sized, entries-step, entries-end}
use Rattle.store.proofs.laws.Read.{version-lt, slots-step, slots_end, pages-step, pages-end}
use Rattle.quick.specs.Sums.{add_to, add_slots, add_entries, add_page, add_pages, page_met, all_met, Sums}

-- ---- one more

pub sum-at : (sums : List ℕ) (m x n : ℕ) → n < length sums → get_or (add_to sums m x) n 0 ≡ pick (eqb m n) x 0 + get_or sums n 0
sum-at sums m x n l = ⊎_elim same other (same? m n)
  where
    same : m ≡ n → get_or (add_to sums m x) n 0 ≡ pick (eqb m n) x 0 + get_or sums n 0
    same e = rw (eq-eqb m n e, e) (get_or-set_same sums n (get_or sums n 0 + x) 0 l ∙ omega arith)

    other : (m ≡ n → ⊥) → get_or (add_to sums m x) n 0 ≡ pick (eqb m n) x 0 + get_or sums n 0
    other d = rw (ne_eqb m n d) (get_or-set_other sums m n (get_or sums m 0 + x) 0 (λ e. d (sym e)) ∙ omega arith)

pick-most : (b : Bool) (x : ℕ) → pick b x 0 ≤ x
pick-most true x = omega arith
pick-most false x = omega arith

pub one_more : {k : ℕ} (sums : List ℕ) (m x : ℕ) → Sums k sums → x ≤ 1048575 → Sums (k + 1) (add_to sums m x)
one_more {k} sums m x h l =
    record {
      all = length-set sums m (get_or sums m 0 + x) ∙ h.all;
      most = λ n t. omega (arith, sum-at sums m x n (omega (arith, h.all)), pick-most (eqb m n) x, h.most n t);
    }

pub fewer : {j k : ℕ} (sums : List ℕ) → Sums j sums → j ≤ k → Sums k sums
fewer sums h l = record { all = h.all; most = λ n t. omega (arith, h.most n t) }

pub none : Sums 0 (replicate 4096 0)
none = record { all = length-replicate {A = ℕ} 4096 0; most = λ n t. omega (arith, get_or-replicate {A = ℕ} 4096 n 0 0 t) }

-- ---- what is left from slot i, from entry i, from page n on

module _ (old : ℕ) (sums s : List ℕ) (o i n : ℕ) where
  pub add-slots-step : i < n
      → add_slots old sums (read_slots s (o + 32 * i) (n - i))
      ≡ add_slots old
      (add_to sums (read_slot s (o + 32 * i)).root
      (upto (read_slots s (o + 32 * (i + 1)) (n - (i + 1))) - max old (read_slot s (o + 32 * i)).version))
      (read_slots s (o + 32 * (i + 1)) (n - (i + 1)))
  unfolding add_slots
  add-slots-step h = ap (add_slots old sums) (slots-step s o i n h)

  pub add-slots-end : n ≤ i → add_slots old sums (read_slots s (o + 32 * i) (n - i)) ≡ sums
  unfolding add_slots
  add-slots-end h = ap (add_slots old sums) (slots_end s (o + 32 * i) i n h)

module _ (old : ℕ) (sums p : List ℕ) (i n : ℕ) where
  pub add-entries-step : i < n
      → add_entries old sums (read_entries p (128 + 96 * i) (n - i))
      ≡ add_entries old
      (add_to sums (read_entry p (128 + 96 * i)).value ((read_entry p (128 + 96 * i)).end - max old (read_entry p (128 + 96 * i)).start))
      (read_entries p (128 + 96 * (i + 1)) (n - (i + 1)))
  unfolding add_entries
  add-entries-step h = ap (add_entries old sums) (entries-step p i n h)

  pub add-entries-end : n ≤ i → add_entries old sums (read_entries p (128 + 96 * i) (n - i)) ≡ sums
  unfolding add_entries
  add-entries-end h = ap (add_entries old sums) (entries-end p (128 + 96 * i) i n h)

module _ (old : ℕ) (sums : List ℕ) (least : ℕ) (s : List ℕ) (n m : ℕ) where
  pub add-pages-step : n < m → add_pages old sums (read_pages least s n (m - n))
      ≡ add_pages old (add_page old sums (decode_page least (page_of least s n))) (read_pages least s (n + 1) (m - (n + 1)))
  unfolding add_pages
  add-pages-step h = ap (add_pages old sums) (pages-step least s n m h)

  pub add-pages-end : m ≤ n → add_pages old sums (read_pages least s n (m - n)) ≡ sums
  unfolding add_pages
  add-pages-end h = ap (add_pages old sums) (pages-end least s n m h)

  pub met-step : n < m → all_met old sums n (read_pages least s n (m - n))
      ≡ (page_met old (get_or sums n 0) (decode_page least (page_of least s n))
      && all_met old sums (n + 1) (read_pages least s (n + 1) (m - (n + 1))))
  unfolding all_met
  met-step h = ap (all_met old sums n) (pages-step least s n m h)

  pub met-end : m ≤ n → all_met old sums n (read_pages least s n (m - n)) ≡ true
  unfolding all_met
  met-end h = ap (all_met old sums n) (pages-end least s n m h)

-- ---- a page by its front

module _ (least old : ℕ) (p : List ℕ) (h : Head) (f : h ≡ read_head least p) where
  pub met_by : (sum : ℕ) → page_met old sum (decode_page least p) ≡ (eqb h.level 0 || eqb sum (h.end - max old h.start))
  met_by sum = rw (level-of least p, start_of least p, end-of least p, f)

  pub page-by : (sums : List ℕ) → add_page old sums (decode_page least p)
      ≡ pick (leb h.level 1) sums (add_entries old sums (read_entries p 128 h.count))
  page-by sums = rw (level-of least p, entries-of least p, f)

-- ---- all of a list

pub upto-most : (s : List ℕ) (o n : ℕ) → upto (read_slots s o n) ≤ 1048575
unfolding read_slots
upto-most s o zero = omega arith
upto-most s o (suc n) = omega (arith, version-lt s o)

pub slots-more : {k : ℕ} (old : ℕ) (sums : List ℕ) (s : List ℕ) (o n : ℕ) → Sums k sums → Sums (k + n) (add_slots old sums (read_slots s o n))
unfolding add_slots read_slots
slots-more old sums s o zero h = fewer sums h (omega arith)
slots-more {k} old sums s o (suc n) h =
    let x : Slot = read_slot s o in
    let y : ℕ = upto (read_slots s (o + 32) n) - max old x.version in
    let g = one_more sums x.root y h (omega (arith, upto-most s (o + 32) n)) in
    fewer (add_slots old (add_to sums x.root y) (read_slots s (o + 32) n)) (slots-more {k = k + 1} old (add_to sums x.root y) s (o + 32) n g)
    (omega arith)

pub entries-more : {k : ℕ} (old : ℕ) (sums : List ℕ) (p : List ℕ) (o n : ℕ) → Sums k sums
    → Sums (k + n) (add_entries old sums (read_entries p o n))
unfolding add_entries read_entries
entries-more old sums p o zero h = fewer sums h (omega arith)
entries-more {k} old sums p o (suc n) h =
    let e : Entry = read_entry p o in
    let y : ℕ = e.end - max old e.start in
    let g = one_more sums e.value y h (omega (arith, (read-sized p o).end)) in
    fewer (add_entries old (add_to sums e.value y) (read_entries p (o + 96) n)) (entries-more {k = k + 1} old (add_to sums e.value y) p (o + 96) n g)
    (omega arith)

pub page-more : {k : ℕ} (old : ℕ) (sums : List ℕ) (least : ℕ) (p : List ℕ) → (read_head least p).count ≤ 40 → Sums k sums
    → Sums (k + 40) (add_page old sums (decode_page least p))
page-more {k} old sums least p few h = at (leb (decode_page least p).level 1)
  where
    at : (b : Bool) → Sums (k + 40) (pick b sums (add_entries old sums (decode_page least p).entries))
    at true = fewer sums h (omega arith)
    at false =
        rw (entries-of least p)
        (fewer (add_entries old sums (read_entries p 128 (read_head least p).count)) (entries-more old sums p 128 (read_head least p).count h)
        (omega arith))
