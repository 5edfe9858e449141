-- The numbers of a table are small: a page that is right has few routers, and stands low. Assumes nothing.
use Prim.Native.Nat.{ℕ, zero, suc, pred, ◌+◌, ◌*◌, ◌-◌, ◌^◌, ◌≤◌, ◌<◌}
use native.Mathlib.Omega.{arith}
use native.Mathlib.Nat.{mul-le-mul_right}
use native.Mathlib.Numerals.{sub-one}
use mathlib.Core.Bool.{Bool, true, false, ◌&&◌}
use mathlib.Core.Path.{◌≡◌, ap, sym, ◌∙◌}
use mathlib.Core.Logic.{◌⊎◌, inl, inr}
use mathlib.Core.List.{List}
use lib.Dec.{leb}
use lib.ListN.{length, get_or, length-map}
use Rattle.model.specs.Basic.{pick, those}
use Rattle.model.specs.declared.Entry.{Entry}
use Rattle.model.specs.declared.Pair.{Pair}
use Rattle.model.specs.Entry.{pair_of, live_at}
use Rattle.model.specs.Walk.{between, range_below}
use Rattle.model.specs.Layout.{page_of, decode}
use Rattle.model.proofs.lists.Members.{bool_cases}
use Rattle.model.proofs.lists.Lists.{few-those}
use Rattle.page.proofs.laws.Read.{length-entries}
use Rattle.local.specs.Local.{Sized, count_at}
use Rattle.model.specs.Near.{page_right, range_right}
use Rattle.walk.specs.Live.{live}
use Rattle.walk.specs.Scan.{from}
use Rattle.walk.specs.Below.{through, later}
use Rattle.walk.proofs.laws.Bound.{most, most-rises}
use Rattle.tabled.specs.Across.{under, right_from}
use Rattle.tabled.proofs.laws.Across.{across-wrong}
use Rattle.tabled.proofs.laws.Bound.{flat-most, parts, below-most, right-few}
use Rattle.tabled.proofs.laws.Told.{told-most}
use Rattle.tabled.specs.Table.{found, behind, turn}
use Rattle.tabled.specs.Cells.{Table}
use Rattle.tabled.proofs.laws.Cells.{right-count, right-low}

length_from : (p : List ℕ) (i n : ℕ) → length (from p i n) ≤ n
unfolding from
length_from p i n = omega (arith, length-entries p (128 + 96 * i) (n - i))

-- no page of a level above 7 is right
pub high-wrong : (least : ℕ) (b : List ℕ) → least ≤ 8 → (v hi at level n : ℕ) → 7 < level
    → range_right least b v (pred level) hi at n ≡ false
high-wrong least b eight v hi at level n h =
    sym (across-wrong least b v hi at n level (omega arith) (by (bool_cases (page_right least b level n))))
  where
    by : (page_right least b level n ≡ true) ⊎ (page_right least b level n ≡ false) → page_right least b level n ≡ false
    by (inl e) = absurd (omega (arith, (parts least b eight level n e).0))
    by (inr e) = e

module _ (least : ℕ) (b : List ℕ) (eight : least ≤ 8) (v lo hi : ℕ) where
  pub found-most : (up at n : ℕ) → found least b v lo hi up at n ≤ suc (2 ^ 40)
  unfolding found
  found-most up at n =
      told-most (range_right least b v up hi at n) (length (range_below up (decode least b).pages v lo hi at n)) (2 ^ 40)
      (λ e. right-few least b eight up v lo hi at n e)

  later-most : (up : ℕ) (p : List ℕ) (n i : ℕ) → n ≤ 40 → up ≤ 5 → right_from least b v hi up p n i ≡ true
      → length (later up (decode least b).pages v lo hi p n i) ≤ 2 ^ 40
  unfolding right_from later most
  later-most up p n i few low e =
      let es : List Entry = from p i n in
      let xs : List Pair = between 0 hi (live v es) in
      let m : length xs ≤ 40
      = omega (
        arith,
        few-those (λ (x : Pair). leb 0 x.key && leb x.key hi) (live v es),
        length-map (those (live_at v) es) pair_of,
        few-those (live_at v) es,
        length_from p i n,
      ) in
      let q : length xs * most up ≤ 40 * most up = mul-le-mul_right (most up) m in
      let k : most up ≤ most 5 = most-rises up 5 low in
      omega (
        arith,
        flat-most (under least b v hi up) (through up (decode least b).pages v lo hi) (most up)
            (λ x c. below-most least b eight up v lo hi x.key x.value c) xs e,
      )

  pub behind-most : (up : ℕ) (p : List ℕ) (n i : ℕ) → n ≤ 40 → up ≤ 5 → behind least b v lo hi up p n i ≤ suc (2 ^ 40)
  unfolding behind
  behind-most up p n i few low =
      told-most (right_from least b v hi up p n i) (length (later up (decode least b).pages v lo hi p n i)) (2 ^ 40)
      (λ e. later-most up p n i few low e)

  pub turn-most : (up : ℕ) (e : Entry) → turn least b v lo hi up e ≤ suc (2 ^ 40)
  unfolding turn
  turn-most up e = at (live_at v e && leb e.key hi)
    where
      at : (x : Bool) → pick x (found least b v lo hi up e.key e.value) 1 ≤ suc (2 ^ 40)
      at true = found-most up e.key e.value
      at false = omega arith

  -- ---- a place of the table, at a page that is right and whose level is known

  module _ (size : ℕ) (z : Sized least b size) (n i : ℕ) where
    pub cell-is : (level : ℕ) → 1 < level → page_right least b level n ≡ true → i ≤ count_at least b n → (t : List ℕ)
        → Table least b v lo hi ((level + 1) * 4096) t
        → (get_or t (n * (5 * least + 1) + i) 0 ≡ behind least b v lo hi (pred (level - 1)) (page_of least b n) (count_at least b n) i)
        × (get_or t (n * (5 * least + 1) + i) 0 ≤ 2 ^ 41)
    cell-is zero h r k t x = absurd (omega arith)
    cell-is (suc zero) h r k t x = absurd (omega arith)
    cell-is (suc (suc up)) h r k t x =
        let e : pred (suc (suc up) - 1) ≡ up = ap pred (sub-one (suc (suc up))) in
        let c = x.cells up n i (omega (arith, right-low least b size z (suc (suc up)) n (omega arith) r)) r k in (
          c ∙ ap (λ (u : ℕ). behind least b v lo hi u (page_of least b n) (count_at least b n) i) (sym e),
          omega (
            arith,
            c,
            behind-most up (page_of least b n) (count_at least b n) i
                (omega (arith, right-count least b size z (suc (suc up)) n (omega arith) r))
                (omega (arith, (parts least b eight (suc (suc up)) n r).0)),
          ),
        )
