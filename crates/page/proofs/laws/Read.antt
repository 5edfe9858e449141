-- Laws about page/specs/Read. Assumes nothing.
use Prim.Native.Nat.{ℕ, zero, suc, ◌+◌, ◌*◌, ◌-◌, ◌^◌, ◌<◌, ◌≤◌}
use mathlib.Core.Path.{◌≡◌, refl, ap, sym, ◌∙◌}
use mathlib.Core.List.{List, [], ◌∷◌}
use lib.ListN.{length, get_or}
use native.Mathlib.Omega.{arith}
use Rattle.bits.proofs.laws.Laws.{field_lt}
use Rattle.model.specs.Limits.{count_bits, live_bits}
use Rattle.model.specs.Layout.{read_entry, read_entries, count_of, live_of, decode_page, unused}
use Rattle.page.specs.declared.Head.{Head}
use Rattle.page.specs.Head.{read_head}
use Rattle.page.specs.Read.{FieldsFit}

-- ---- the page's fields, by its front

module _ (least : ℕ) (p : List ℕ) where
  pub level-of : (decode_page least p).level ≡ (read_head least p).level
  unfolding decode_page read_head
  level-of = refl

  pub start_of : (decode_page least p).start ≡ (read_head least p).start
  unfolding decode_page read_head
  start_of = refl

  pub end-of : (decode_page least p).end ≡ (read_head least p).end
  unfolding decode_page read_head
  end-of = refl

  pub count-of : count_of least p ≡ (read_head least p).count
  unfolding read_head
  count-of = refl

  pub entries-of : (decode_page least p).entries ≡ read_entries p 128 (read_head least p).count
  unfolding decode_page read_head
  entries-of = refl

  pub level-lt : (read_head least p).level < 2 ^ 4
  unfolding read_head
  level-lt = field_lt p 0 4

  pub start-lt : (read_head least p).start < 2 ^ 20
  unfolding read_head
  start-lt = field_lt p (4 + count_bits least) 20

  pub end_lt : (read_head least p).end < 2 ^ 20
  unfolding read_head
  end_lt = field_lt p (24 + count_bits least) 20

  pub count-lt : count_of least p < 2 ^ count_bits least
  unfolding count_of
  count-lt = field_lt p 4 (count_bits least)

  pub live-lt : live_of least p < 2 ^ live_bits least
  unfolding live_of
  live-lt = field_lt p (44 + count_bits least) (live_bits least)

pub read-sized : (s : List ℕ) (o : ℕ) → FieldsFit (read_entry s o)
unfolding read_entry
read-sized s o =
    record { key = field_lt s o 24; start = field_lt s (o + 24) 20; end = field_lt s (o + 44) 20; value = field_lt s (o + 64) 32 }

pub sized-unused : FieldsFit unused
sized-unused = omega arith

pub length-entries : (s : List ℕ) (o n : ℕ) → length (read_entries s o n) ≡ n
unfolding read_entries
length-entries s o zero = refl
length-entries s o (suc n) = ap suc (length-entries s (o + 96) n)

pub sized-entries : (s : List ℕ) (o n k : ℕ) → FieldsFit (get_or (read_entries s o n) k unused)
unfolding read_entries
sized-entries s o zero k = sized-unused
sized-entries s o (suc n) zero = read-sized s o
sized-entries s o (suc n) (suc k) = sized-entries s (o + 96) n k

pub entries_at : (p : List ℕ) (o n k : ℕ) → k < n → get_or (read_entries p o n) k unused ≡ read_entry p (o + 96 * k)
unfolding read_entries
entries_at p o zero k h = absurd (omega arith)
entries_at p o (suc n) zero h = let e : o + 96 * 0 ≡ o = omega arith in rw e
entries_at p o (suc n) (suc k) h = let e : o + 96 * suc k ≡ o + 96 + 96 * k = omega arith in rw e (entries_at p (o + 96) n k (omega arith))

-- those from entry i on, for a loop
pub entries-step : (p : List ℕ) (i n : ℕ) → i < n
    → read_entries p (128 + 96 * i) (n - i) ≡ read_entry p (128 + 96 * i) ∷ read_entries p (128 + 96 * (i + 1)) (n - (i + 1))
unfolding read_entries
entries-step p i n h =
    let e : n - i ≡ suc (n - (i + 1)) = omega arith in
    let f : 128 + 96 * i + 96 ≡ 128 + 96 * (i + 1) = omega arith in
    rw (e, f)

pub entries-end : (p : List ℕ) (o i n : ℕ) → n ≤ i → read_entries p o (n - i) ≡ []
unfolding read_entries
entries-end p o i n h = let e : n - i ≡ 0 = omega arith in rw e

-- the entry count of a front that was read
pub count_read : (least : ℕ) (p : List ℕ) {h : Head} → h ≡ read_head least p → h.count ≡ count_of least p
count_read least p e = ap (λ (h : Head). h.count) e ∙ sym (count-of least p)
