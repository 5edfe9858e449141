-- Laws about tabled/specs/Cells. Assumes nothing.
use Prim.Native.Nat.{ℕ, zero, suc, pred, ◌+◌, ◌*◌, ◌-◌, ◌≤◌, ◌<◌}
use native.Mathlib.Omega.{arith}
use native.Mathlib.Nat.{mul-le-mul_right}
use native.Mathlib.Numerals.{sub-one}
use mathlib.Core.Bool.{true, false, ◌&&◌}
use mathlib.Core.Path.{◌≡◌, ap, sym, ◌∙◌, subst}
use mathlib.Core.Logic.{◌⊎◌, inl, inr, ⊎_elim}
use mathlib.Core.List.{List}
use lib.Dec.{eqb}
use lib.ListN.{length, get_or, set, replicate, length-set, length-replicate}
use lib.Seq.{get_or-set_same, get_or-set_other}
use borrow.Author.Tests.{eqb-true}
use Rattle.bits.proofs.laws.Put.{less}
use Rattle.model.specs.Store.{page, last}
use Rattle.model.specs.Sound.{page_ok}
use Rattle.model.specs.Layout.{page_of, decode}
use Rattle.model.specs.Clean.{clean_page}
use Rattle.model.proofs.lists.Lists.{both_true}
use Rattle.model.proofs.lists.Members.{not-both}
use Rattle.local.specs.Local.{Sized, count_at}
use Rattle.model.specs.Near.{page_right}
use Rattle.local.proofs.laws.Pages.{clean-count}
use Rattle.local.proofs.laws.Right.{page-far}
use Rattle.tabled.specs.Table.{behind}
use Rattle.tabled.specs.Cells.{Cell, Table, Row}

-- ---- places: w numbers for each page

pub place_after : (w n m i : ℕ) → i < w → n < m → n * w + i < m * w
place_after w n m i a h =
    let q : suc n * w ≤ m * w = mul-le-mul_right w h in
    let e : suc n * w ≡ w + n * w = omega arith in
    omega arith

pub place_in : (w n m i : ℕ) → i < w → n < m → (t : List ℕ) → m * w ≤ length t → n * w + i < length t
place_in w n m i a h t k = omega (arith, place_after w n m i a h)

place_other : (w n m i j : ℕ) → i < w → j < w → (n < m) ⊎ (m < n) → n * w + i ≡ m * w + j → ⊥
place_other w n m i j a c (inl h) e = omega (arith, place_after w n m i a h)
place_other w n m i j a c (inr h) e = omega (arith, place_after w m n j c h)

place-next : (w n i j : ℕ) → (i ≡ j → ⊥) → n * w + i ≡ n * w + j → ⊥
place-next w n i j h e = h (omega arith)

-- ---- pages that are right

module _ (least : ℕ) (b : List ℕ) (size : ℕ) (z : Sized least b size) (level n : ℕ) (some : 0 < level)
    (e : page_right least b level n ≡ true) where
  pub right-low : n < 4096
  right-low =
      ⊎_elim (λ h. omega (arith, z.most)) (λ h. absurd (not-both (page_right least b level n) e (page-far least b size z level n some h)))
      (less n size)

  pub right-count : count_at least b n ≤ 5 * least
  unfolding page_right
  right-count =
      clean-count least (page_of least b n)
      (both_true (clean_page least (page_of least b n))
      (page_ok least (last (decode least b)) (length (decode least b).pages) (page (decode least b).pages n)
      && eqb (page (decode least b).pages n).level level) e).0

right-level : (least : ℕ) (b : List ℕ) (level n : ℕ) → page_right least b level n ≡ true → (page (decode least b).pages n).level ≡ level
unfolding page_right
right-level least b level n e =
    let x = both_true (clean_page least (page_of least b n))
    (page_ok least (last (decode least b)) (length (decode least b).pages) (page (decode least b).pages n)
    && eqb (page (decode least b).pages n).level level) e in
    eqb-true (page (decode least b).pages n).level level
    (both_true (page_ok least (last (decode least b)) (length (decode least b).pages) (page (decode least b).pages n))
    (eqb (page (decode least b).pages n).level level) x.1).1

-- a level above the leaves, by the level below its children's
pub two_up : (level : ℕ) → 1 < level → suc (suc (pred (level - 1))) ≡ level
two_up zero h = absurd (omega arith)
two_up (suc zero) h = absurd (omega arith)
two_up (suc (suc up)) h = ap (λ (u : ℕ). suc (suc u)) (ap pred (sub-one (suc (suc up))))

-- a table of zeros that is long enough
pub small-long : (least : ℕ) → least ≤ 4 → 4096 * (5 * least + 1) ≤ length (replicate {A = ℕ} 86016 0)
small-long least h = omega (arith, length-replicate {A = ℕ} 86016 0)

pub large-long : (least : ℕ) → least ≤ 8 → 4096 * (5 * least + 1) ≤ length (replicate {A = ℕ} 167936 0)
large-long least h = omega (arith, length-replicate {A = ℕ} 167936 0)

module _ (least : ℕ) (b : List ℕ) (size : ℕ) (z : Sized least b size) (v lo hi : ℕ) where
  abbrev w : ℕ
  w = 5 * least + 1

  pub table-start : (t : List ℕ) → 4096 * w ≤ length t → Table least b v lo hi 8192 t
  table-start t h = record { long = h; cells = λ up n i c. absurd (omega arith) }

  pub table-fewer : (c d : ℕ) (t : List ℕ) → d ≤ c → Table least b v lo hi c t → Table least b v lo hi d t
  table-fewer c d t h x = record { long = x.long; cells = λ up n i q. x.cells up n i (omega arith) }

  pub table-row : (up n c : ℕ) (t : List ℕ) → Table least b v lo hi c t → (up + 2) * 4096 + n < c
      → page_right least b (suc (suc up)) n ≡ true → Row least b v lo hi up n 0 t
  table-row up n c t x h r = record { from = λ i j k. x.cells up n i h r k }

  -- one more turn: page n has this level and is right, and all of its places are known; or not
  module _ (up n : ℕ) (low : n < 4096) (t : List ℕ) (x : Table least b v lo hi ((up + 2) * 4096 + n) t) where
    more : ((i : ℕ) → Cell least b v lo hi t up n i) → Table least b v lo hi ((up + 2) * 4096 + n + 1) t
    more f =
        record {
          long = x.long;
          cells = λ up' m i q. λ r k. ⊎_elim (λ h. x.cells up' m i h r k) (λ h. same up' m i q r k h)
              (less ((up' + 2) * 4096 + m) ((up + 2) * 4096 + n));
        }
      where
        same : (up' m i : ℕ) → (up' + 2) * 4096 + m < (up + 2) * 4096 + n + 1 → page_right least b (suc (suc up')) m ≡ true
            → i ≤ count_at least b m → (up + 2) * 4096 + n ≤ (up' + 2) * 4096 + m
            → get_or t (m * w + i) 0 ≡ behind least b v lo hi up' (page_of least b m) (count_at least b m) i
        same up' m i q r k h =
            let lo' : m < 4096 = right-low least b size z (suc (suc up')) m (omega arith) r in
            let eu : up ≡ up' = omega arith in
            let en : n ≡ m = omega arith in
            subst (λ (u : ℕ). Cell least b v lo hi t u m i) eu (subst (λ (j : ℕ). Cell least b v lo hi t up j i) en (f i)) r k

    pub table_more : Row least b v lo hi up n 0 t → Table least b v lo hi ((up + 2) * 4096 + n + 1) t
    table_more y = more (λ i r k. y.from i (omega arith) k)

    pub table-skip : page_right least b (suc (suc up)) n ≡ false → Table least b v lo hi ((up + 2) * 4096 + n + 1) t
    table-skip e = more (λ i r k. absurd (not-both (page_right least b (suc (suc up)) n) r e))

  -- ---- a number is put at place j of page n, whose turn it is

  module _ (up n j x : ℕ) (right : page_right least b (suc (suc up)) n ≡ true) (room : j ≤ count_at least b n) (t : List ℕ) where
    few : count_at least b n ≤ 5 * least
    few = right-count least b size z (suc (suc up)) n (omega arith) right

    -- a page whose turn was before is another one
    elsewhere : (up' m : ℕ) → (up' + 2) * 4096 + m < (up + 2) * 4096 + n → page_right least b (suc (suc up')) m ≡ true → (m < n) ⊎ (n < m)
    elsewhere up' m q r = at (less m n) (less n m)
      where
        at : (m < n) ⊎ (n ≤ m) → (n < m) ⊎ (m ≤ n) → (m < n) ⊎ (n < m)
        at (inl h) k = inl h
        at (inr h) (inl k) = inr k
        at (inr h) (inr k) =
            let e : m ≡ n = omega arith in
            let u : suc (suc up') ≡ suc (suc up) = sym (right-level least b (suc (suc up')) m r)
            ∙ ap (λ (y : ℕ). (page (decode least b).pages y).level) e ∙ right-level least b (suc (suc up)) n right in
            absurd (omega arith)

    pub table-put : Table least b v lo hi ((up + 2) * 4096 + n) t → Table least b v lo hi ((up + 2) * 4096 + n) (set t (n * w + j) x)
    table-put k = record {
      long = omega (arith, k.long, length-set t (n * w + j) x);
      cells = λ up' m i q. λ r h.
          get_or-set_other t (n * w + j) (m * w + i) x 0
          (place_other w m n i j (omega (arith, right-count least b size z (suc (suc up')) m (omega arith) r)) (omega (arith, few))
          (elsewhere up' m q r))
          ∙ k.cells up' m i q r h;
    }

    module _ (long : 4096 * w ≤ length t) (is : x ≡ behind least b v lo hi up (page_of least b n) (count_at least b n) j) where
      here : get_or (set t (n * w + j) x) (n * w + j) 0 ≡ behind least b v lo hi up (page_of least b n) (count_at least b n) j
      here =
          get_or-set_same t (n * w + j) x 0
          (place_in w n 4096 j (omega (arith, few)) (right-low least b size z (suc (suc up)) n (omega arith) right) t long) ∙ is

      -- the last place
      pub row_last : j ≡ count_at least b n → Row least b v lo hi up n j (set t (n * w + j) x)
      row_last e = record {
        from = λ i h k.
            let q : j ≡ i = omega arith in
            subst (λ (y : ℕ). get_or (set t (n * w + j) x) (n * w + y) 0 ≡ behind least b v lo hi up (page_of least b n) (count_at least b n) y)
            q here;
      }

      -- one before those that are known
      pub row_more : Row least b v lo hi up n (j + 1) t → Row least b v lo hi up n j (set t (n * w + j) x)
      row_more y = record { from = λ i h k. at i h k (less j i) }
        where
          at : (i : ℕ) → j ≤ i → i ≤ count_at least b n → (j < i) ⊎ (i ≤ j)
              → get_or (set t (n * w + j) x) (n * w + i) 0 ≡ behind least b v lo hi up (page_of least b n) (count_at least b n) i
          at i h k (inl a) =
              get_or-set_other t (n * w + j) (n * w + i) x 0 (place-next w n i j (λ e. omega arith)) ∙ y.from i (omega arith) k
          at i h k (inr a) =
              let q : j ≡ i = omega arith in
              subst (λ (u : ℕ). get_or (set t (n * w + j) x) (n * w + u) 0
              ≡ behind least b v lo hi up (page_of least b n) (count_at least b n) u) q here
