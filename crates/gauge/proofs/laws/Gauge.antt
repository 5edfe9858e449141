-- Laws about gauge/specs/Gauge. Assumes nothing.
use Prim.Native.Nat.{ℕ, zero, suc, ◌+◌, ◌*◌, ◌^◌, ◌<◌, ◌≤◌}
use mathlib.Core.Path.{◌≡◌, refl}
use mathlib.Core.Bool.{true, ◌&&◌}
use mathlib.Core.List.{List}
use lib.Dec.{leb, eqb}
use lib.ListN.{replicate, take, get_or}
use native.Mathlib.Omega.{arith}
use native.Mathlib.Numerals.{add-one}
use borrow.Author.Tests.{leb-true, eqb-true}
use Rattle.model.specs.Field.{field}
use Rattle.model.specs.Page.{filled}
use Rattle.model.specs.Layout.{read_entry, encode_page}
use Rattle.model.proofs.lists.Lists.{both_true}
use Rattle.bits.proofs.laws.Laws.{field_fits}
use Rattle.page.specs.Read.{FieldsFit}
use Rattle.page.proofs.laws.Read.{read-sized}
use Rattle.edit.specs.Fill.{nil, Fitting}
use Rattle.gauge.specs.Gauge.{fits, field_sum, weight, entry_sum, fill_fits, fill_pairs, filled_page}

-- ---- what the tests tell

pub record GaugeFit (len at width n : ℕ) : Type 0 where
  pub bytes : len ≤ 1048576
  pub place : at ≤ 1048576
  pub wide : width ≤ 32
  pub many : n ≤ 1048576
  pub held : at + 96 * n ≤ 8 * len

pub told : (len at width n : ℕ) → fits len at width n ≡ true → GaugeFit len at width n
told len at width n e =
    let a = both_true (leb len 1048576) (leb at 1048576 && (leb width 32 && (leb n 1048576 && leb (at + 96 * n) (8 * len)))) e in
    let b = both_true (leb at 1048576) (leb width 32 && (leb n 1048576 && leb (at + 96 * n) (8 * len))) a.1 in
    let c = both_true (leb width 32) (leb n 1048576 && leb (at + 96 * n) (8 * len)) b.1 in
    let d = both_true (leb n 1048576) (leb (at + 96 * n) (8 * len)) c.1 in
    record {
      bytes = leb-true len 1048576 a.0;
      place = leb-true at 1048576 b.0;
      wide = leb-true width 32 c.0;
      many = leb-true n 1048576 d.0;
      held = leb-true (at + 96 * n) (8 * len) d.1;
    }

pub record Fillable (len w key n : ℕ) : Type 0 where
  pub page : len ≡ 256
  pub version : w ≤ 1048575
  pub low : key ≤ 16777215
  pub room : n ≤ 20

pub fillable : (len w key n : ℕ) → fill_fits len w key n ≡ true → Fillable len w key n
fillable len w key n e =
    let a = both_true (eqb len 256) (leb w 1048575 && (leb key 16777215 && leb n 20)) e in
    let b = both_true (leb w 1048575) (leb key 16777215 && leb n 20) a.1 in
    let c = both_true (leb key 16777215) (leb n 20) b.1 in
    record {
      page = eqb-true len 256 a.0;
      version = leb-true w 1048575 b.0;
      low = leb-true key 16777215 c.0;
      room = leb-true n 20 c.1;
    }

-- ---- the stages of the loops

module _ (s : List ℕ) where
  pub fields-none : (at width : ℕ) → 0 ≡ field_sum s at width 0
  unfolding field_sum
  fields-none at width = refl

  pub fields-more : (at width i : ℕ) → field_sum s at width i + field s (at + 96 * i) width ≡ field_sum s at width (i + 1)
  unfolding field_sum
  fields-more at width i = rw add-one

  pub fields-small : (at width i : ℕ) → width ≤ 32 → field_sum s at width i ≤ 4294967296 * i
  unfolding field_sum
  fields-small at width zero h = omega arith
  fields-small at width (suc i) h = omega (arith, fields-small at width i h, field_fits s (at + 96 * i) width h)

  pub entries_none : 0 ≡ entry_sum s 0
  unfolding entry_sum
  entries_none = refl

  pub entries-more : (i : ℕ) → entry_sum s i + weight (read_entry s (128 + 96 * i)) ≡ entry_sum s (i + 1)
  unfolding entry_sum
  entries-more i = rw add-one

  pub entries-small : (i : ℕ) → entry_sum s i ≤ 17179869184 * i
  unfolding entry_sum
  entries-small zero = omega arith
  entries-small (suc i) =
      let z : FieldsFit (read_entry s (128 + 96 * i)) = read-sized s (128 + 96 * i) in
      omega (arith, entries-small i, z.key, z.start, z.end, z.value)

-- every pair of the list that a page is filled from
pub fitting-all : (key value k n : ℕ) → key < 2 ^ 24 → value < 2 ^ 32
    → Fitting (get_or (replicate n (record { key = key; value = value })) k nil)
fitting-all key value k zero a b = record { key = omega arith; value = omega arith }
fitting-all key value zero (suc n) a b = record { key = a; value = b }
fitting-all key value (suc k) (suc n) a b = fitting-all key value k n a b

pub filled-four : (w key value n least : ℕ) → least ≡ 4
    → encode_page least (filled w 1 (take n (fill_pairs key value))) ≡ filled_page w key value n
unfolding filled_page
filled-four w key value n least e = rw e
