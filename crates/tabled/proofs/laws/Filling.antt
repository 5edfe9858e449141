-- The numbers of one page, from its last router on. Assumes nothing.
use Prim.Native.Nat.{ℕ, suc, pred, ◌+◌, ◌*◌, ◌-◌, ◌^◌, ◌≤◌, ◌<◌}
use native.Mathlib.Omega.{arith}
use mathlib.Core.Bool.{true, false}
use mathlib.Core.Path.{◌≡◌, ap, sym, ◌∙◌, subst}
use mathlib.Core.List.{List}
use lib.ListN.{set}
use Rattle.model.specs.Layout.{page_of}
use Rattle.local.specs.Local.{Sized, count_at}
use Rattle.model.specs.Near.{page_right}
use Rattle.walk.specs.Scan.{entry}
use Rattle.tabled.proofs.laws.Bound.{parts}
use Rattle.tabled.specs.Told.{join}
use Rattle.tabled.specs.Table.{behind, turn}
use Rattle.tabled.proofs.laws.Table.{behind-end, behind-step}
use Rattle.tabled.specs.Cells.{Table, Row}
use Rattle.tabled.proofs.laws.Cells.{two_up, right-low, right-count, table-fewer, table_more, table-skip, table-put, row_last}
use Rattle.tabled.proofs.laws.Cells.{row_more}
use Rattle.tabled.proofs.laws.Most.{behind-most}

-- page n has this level; its places from i on are known, and `rest` is the number of place i
pub record Filling (least : ℕ) (b : List ℕ) (v lo hi level n i rest : ℕ) (t : List ℕ) : Type 0 where
  pub few : i ≤ count_at least b n
  pub is : rest ≡ behind least b v lo hi (pred (level - 1)) (page_of least b n) (count_at least b n) i
  pub row : Row least b v lo hi (pred (level - 1)) n i t
  pub table : Table least b v lo hi (level * 4096 + n) t

module _ (least : ℕ) (b : List ℕ) (size : ℕ) (z : Sized least b size) (v lo hi level n : ℕ) (big : 1 < level) where
  abbrev up : ℕ
  up = pred (level - 1)

  -- its turn, by its level and by the level of what stands below its children
  turn-down : (t : List ℕ) → Table least b v lo hi (level * 4096 + n) t → Table least b v lo hi ((up + 2) * 4096 + n) t
  turn-down t x = table-fewer least b size z v lo hi (level * 4096 + n) ((up + 2) * 4096 + n) t (omega (arith, two_up level big)) x

  turn_up : (t : List ℕ) → Table least b v lo hi ((up + 2) * 4096 + n) t → Table least b v lo hi (level * 4096 + n) t
  turn_up t x = table-fewer least b size z v lo hi ((up + 2) * 4096 + n) (level * 4096 + n) t (omega (arith, two_up level big)) x

  next_up : (t : List ℕ) → Table least b v lo hi ((up + 2) * 4096 + n + 1) t → Table least b v lo hi (level * 4096 + n + 1) t
  next_up t x = table-fewer least b size z v lo hi ((up + 2) * 4096 + n + 1) (level * 4096 + n + 1) t (omega (arith, two_up level big)) x

  -- a page that is not right
  pub filled-not : n < 4096 → page_right least b level n ≡ false → (t : List ℕ) → Table least b v lo hi (level * 4096 + n) t
      → Table least b v lo hi (level * 4096 + n + 1) t
  filled-not low e t x =
      next_up t (table-skip least b size z v lo hi up n low t (turn-down t x)
      (ap (λ (k : ℕ). page_right least b k n) (two_up level big) ∙ e))

  module _ (right : page_right least b level n ≡ true) where
    here : page_right least b (suc (suc up)) n ≡ true
    here = ap (λ (k : ℕ). page_right least b k n) (two_up level big) ∙ right

    pub filling-start : (i : ℕ) (t t' : List ℕ) → i ≡ count_at least b n → Table least b v lo hi (level * 4096 + n) t
        → t' ≡ set t (n * (5 * least + 1) + i) 1 → Filling least b v lo hi level n i 1 t'
    filling-start i t t' e x q =
        let is : 1 ≡ behind least b v lo hi up (page_of least b n) (count_at least b n) i
        = sym (ap (behind least b v lo hi up (page_of least b n) (count_at least b n)) e
        ∙ behind-end least b v lo hi up (page_of least b n) (count_at least b n)) in
        rw q
        record {
          few = omega arith;
          is = is;
          row = row_last least b size z v lo hi up n i 1 here (omega arith) t x.long is e;
          table = turn_up _ (table-put least b size z v lo hi up n i 1 here (omega arith) t (turn-down t x));
        }

    pub filling_step : (i rest j w rest' : ℕ) (t t' : List ℕ) → Filling least b v lo hi level n i rest t → 0 < i → j ≡ i - 1
        → w ≡ turn least b v lo hi up (entry (page_of least b n) j) → rest' ≡ join rest w
        → t' ≡ set t (n * (5 * least + 1) + j) rest' → Filling least b v lo hi level n j rest' t'
    filling_step i rest j w rest' t t' x some ej ew er q =
        let one : i ≡ j + 1 = omega arith in
        let is : rest' ≡ behind least b v lo hi up (page_of least b n) (count_at least b n) j
        = er ∙ ap (λ (k : ℕ). join k w) (x.is ∙ ap (behind least b v lo hi up (page_of least b n) (count_at least b n)) one)
        ∙ ap (join (behind least b v lo hi up (page_of least b n) (count_at least b n) (j + 1))) ew
        ∙ sym (behind-step least b v lo hi up (page_of least b n) (count_at least b n) j (omega (arith, x.few))) in
        let few : j ≤ count_at least b n = omega (arith, x.few) in
        rw q
        record {
          few = few;
          is = is;
          row = row_more least b size z v lo hi up n j rest' here few t x.table.long is
              (subst (λ (k : ℕ). Row least b v lo hi up n k t) one x.row);
          table = turn_up _ (table-put least b size z v lo hi up n j rest' here few t (turn-down t x.table));
        }

    pub filling-end : (i rest : ℕ) (t : List ℕ) → i ≡ 0 → Filling least b v lo hi level n i rest t
        → Table least b v lo hi (level * 4096 + n + 1) t
    filling-end i rest t e x =
        next_up t (table_more least b size z v lo hi up n (right-low least b size z level n (omega arith) right) t (turn-down t x.table)
        (subst (λ (k : ℕ). Row least b v lo hi up n k t) e x.row))

    pub filling-most : least ≤ 8 → (i rest : ℕ) (t : List ℕ) → Filling least b v lo hi level n i rest t → rest ≤ suc (2 ^ 40)
    filling-most eight i rest t x =
        omega (
          arith,
          x.is,
          behind-most least b eight v lo hi up (page_of least b n) (count_at least b n) i
              (omega (arith, right-count least b size z level n (omega arith) right))
              (omega (arith, two_up level big, (parts least b eight level n right).0)),
        )

    pub filling-below : (i rest : ℕ) (t : List ℕ) → Filling least b v lo hi level n i rest t
        → Table least b v lo hi ((level - 1 + 1) * 4096) t
    filling-below i rest t x = table-fewer least b size z v lo hi (level * 4096 + n) ((level - 1 + 1) * 4096) t (omega arith) x.table
