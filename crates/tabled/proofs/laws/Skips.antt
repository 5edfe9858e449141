-- Laws about tabled/specs/Skips. Assumes nothing.
use Prim.Native.Nat.{ℕ, suc, ◌+◌, ◌*◌, ◌-◌, ◌<◌}
use native.Mathlib.Omega.{arith}
use mathlib.Core.Bool.{true}
use mathlib.Core.Path.{◌≡◌, refl, ap, sym, ◌∙◌, subst}
use mathlib.Core.List.{List, [], ◌∷◌, ◌++◌}
use lib.ListN.{length, get_or, length-append}
use Rattle.model.specs.declared.Pair.{Pair}
use Rattle.model.specs.Page.{Page}
use Rattle.model.specs.Walk.{range_below}
use Rattle.model.specs.Layout.{page_of, size_of, decode}
use Rattle.local.specs.Local.{count_at}
use Rattle.model.specs.Near.{page_right, range_right}
use Rattle.walk.specs.Scan.{entry, Next}
use Rattle.walk.specs.Below.{later}
use Rattle.walk.proofs.laws.Below.{later-step, later_same}
use Rattle.model.specs.declared.Limits.{Limits}
use Rattle.tabled.specs.Here.{Reads}
use Rattle.tabled.proofs.laws.Here.{page-of}
use Rattle.tabled.specs.Across.{right_from}
use Rattle.tabled.proofs.laws.Across.{from_first, from-same}
use Rattle.tabled.proofs.laws.Told.{told-right}
use Rattle.tabled.specs.Table.{behind}
use Rattle.tabled.specs.Cells.{Table, Row}
use Rattle.tabled.proofs.laws.Cells.{right-low, table-row}
use Rattle.tabled.specs.Skips.{Turns, Skips}

-- so it is at an index page of a walk that is right
pub turns-here : {l : Limits} {b : List ℕ} (r : Reads l b) (v lo hi up n k : ℕ) → range_right l.least b v up hi k n ≡ true → (up ≡ 0 → ⊥)
    → (t : List ℕ) → Table l.least b v lo hi ((up + 2) * 4096) t → Turns l b v lo hi (up - 1) n t
turns-here {l} {b} r v lo hi up n k c z t x =
    let e : suc up ≡ suc (suc (up - 1)) = omega arith in
    let right : page_right l.least b (suc (suc (up - 1))) n ≡ true
    = subst (λ (u : ℕ). page_right l.least b u n ≡ true) e (page-of l.least b v hi k n up c) in
    let low : n < 4096 = right-low l.least b (size_of l.least b) r.sized (suc (suc (up - 1))) n (omega arith) right in
    record {
      reads = r;
      right = right;
      long = x.long;
      row = table-row l.least b (size_of l.least b) r.sized v lo hi (up - 1) n ((up + 2) * 4096) t x (omega arith) right;
    }

module _ (least : ℕ) (b : List ℕ) (v lo hi up n : ℕ) where
  abbrev ps : List Page
  ps = (decode least b).pages

  abbrev p : List ℕ
  p = page_of least b n

  abbrev m : ℕ
  m = count_at least b n

  -- the next one that is followed
  pub skips-next : (i r : ℕ) → Next p v 0 hi i m r → right_from least b v hi up p m i ≡ true → Skips least b v lo hi up n i r
  skips-next i r x c = record {
    after = x.behind;
    within = x.within;
    same = later_same up ps v lo hi p m i r x.same;
    right = sym (from-same least b v hi up p m i r x.same) ∙ c;
    here = x.here;
  }

  -- from one that is passed over to the next one
  pub skips-on : (i k r : ℕ) → Skips least b v lo hi up n i k → later up ps v lo hi p m k ≡ later up ps v lo hi p m (k + 1)
      → Skips least b v lo hi up n (k + 1) r → Skips least b v lo hi up n i r
  skips-on i k r x e y =
      record {
        after = omega (arith, x.after, y.after);
        within = y.within;
        same = x.same ∙ e ∙ y.same;
        right = y.right;
        here = y.here;
      }

  empty : (xs ys : List Pair) → length xs ≡ 0 → xs ++ ys ≡ ys
  empty [] ys e = refl
  empty (x ∷ xs) ys e = absurd (omega arith)

  known : (i : ℕ) → right_from least b v hi up p m i ≡ true → behind least b v lo hi up p m i ≡ suc (length (later up ps v lo hi p m i))
  unfolding behind
  known i c = told-right (right_from least b v hi up p m i) (length (later up ps v lo hi p m i)) c

  -- a router with the number of the one behind it finds nothing
  pub skips-none : (i k : ℕ) → Skips least b v lo hi up n i k → k < m → (t : List ℕ) → Row least b v lo hi up n 0 t
      → get_or t (n * (5 * least + 1) + k) 0 ≡ get_or t (n * (5 * least + 1) + (k + 1)) 0
      → (later up ps v lo hi p m k ≡ later up ps v lo hi p m (k + 1)) × (right_from least b v hi up p m (k + 1) ≡ true)
  skips-none i k x h t y e =
      let c = from_first least b v hi up p m k (x.here h) x.right in
      let s = later-step up ps v lo hi p m k (x.here h) in
      let xs = range_below up ps v lo hi (entry p k).key (entry p k).value in
      let ys = later up ps v lo hi p m (k + 1) in
      let q : length xs ≡ 0
      = omega (
        arith,
        known k x.right,
        known (k + 1) c.1,
        y.from k (omega arith) (omega arith),
        y.from (k + 1) (omega arith) (omega arith),
        e,
        ap (λ (zs : List Pair). length zs) s,
        length-append xs ys,
      ) in
      (s ∙ empty xs ys q, c.1)
