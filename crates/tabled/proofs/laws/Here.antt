-- Laws about tabled/specs/Here. Assumes nothing.
use Prim.Native.Nat.{ℕ, zero, suc, pred, ◌-◌}
use native.Mathlib.Omega.{arith}
use native.Mathlib.Numerals.{sub-one}
use mathlib.Core.Bool.{Bool, true, ◌&&◌}
use mathlib.Core.Path.{◌≡◌, ap, sym, ◌∙◌, subst}
use mathlib.Core.List.{List, ◌++◌}
use Rattle.model.specs.Basic.{all}
use Rattle.model.specs.declared.Pair.{Pair}
use Rattle.model.specs.declared.Limits.{Limits}
use Rattle.model.specs.Page.{Page, pairs_at}
use Rattle.model.specs.Store.{page}
use Rattle.model.specs.Walk.{followed, range_below}
use Rattle.model.specs.Layout.{page_of, size_of, decode}
use Rattle.model.proofs.lists.Lists.{both_true}
use Rattle.page.specs.declared.Head.{Head}
use Rattle.page.specs.Head.{read_head}
use Rattle.model.specs.Near.{page_right, starts_by, shown, range_right}
use Rattle.walk.specs.declared.search.Own.{Own}
use Rattle.walk.specs.Live.{live}
use Rattle.walk.specs.Scan.{Stands, from, Owns}
use Rattle.walk.specs.Below.{later}
use Rattle.walk.proofs.laws.Below.{followed-through}
use Rattle.walk.specs.Sure.{PageStands}
use Rattle.tabled.proofs.laws.Inside.{right-inside}
use Rattle.tabled.specs.Across.{right_from}
use Rattle.tabled.proofs.laws.Across.{across-on}
use Rattle.tabled.specs.Here.{Reads}

module _ (least : ℕ) (b : List ℕ) (v hi at n : ℕ) where
  pub page-of : (up : ℕ) → range_right least b v up hi at n ≡ true → page_right least b (suc up) n ≡ true
  unfolding range_right
  page-of zero c = c
  page-of (suc up) c =
      (both_true (page_right least b (suc (suc up)) n)
      (starts_by at (shown least b v n) && all (λ (r : Pair). range_right least b v up hi r.key r.value)
      (followed at hi (shown least b v n))) c).0

  pub all_of : (up : ℕ) → range_right least b v (suc up) hi at n ≡ true
      → (starts_by at (shown least b v n) ≡ true) ×
      (all (λ (r : Pair). range_right least b v up hi r.key r.value) (followed at hi (shown least b v n)) ≡ true)
  unfolding range_right
  all_of up c =
      let xs = followed at hi (shown least b v n) in
      let f : Pair → Bool = λ r. range_right least b v up hi r.key r.value in
      both_true (starts_by at (shown least b v n)) (all f xs)
      (both_true (page_right least b (suc (suc up)) n) (starts_by at (shown least b v n) && all f xs) c).1

  starts-of : (up : ℕ) → (up ≡ 0 → ⊥) → range_right least b v up hi at n ≡ true
      → starts_by at (pairs_at v (page (decode least b).pages n)) ≡ true
  starts-of zero z c = absurd (z (omega arith))
  starts-of (suc up) z c = (all_of up c).0

module _ {l : Limits} {b : List ℕ} (r : Reads l b) (v hi up n k : ℕ) (c : range_right l.least b v up hi k n ≡ true) where
  pub here-inside : PageStands l.least b n
  here-inside = right-inside r.edition b (size_of l.least b) r.sized up n (page-of l.least b v hi k n up c)

  module _ (p : List ℕ) (h : Head) (e : p ≡ page_of l.least b n) (f : h ≡ read_head l.least p) where
    abbrev ps : List Page
    ps = (decode l.least b).pages

    pub here-stands : Stands p h.count
    here-stands = rw (f, e) here-inside.stands

    pub here-pairs : pairs_at v (page ps n) ≡ live v (from p 0 h.count)
    here-pairs = rw (f, e) (here-inside.pairs v)

    -- above the leaves
    module _ (z : up ≡ 0 → ⊥) where
      one_up : up ≡ suc (up - 1)
      one_up = omega arith

      pub here-starts : starts_by k (live v (from p 0 h.count)) ≡ true
      here-starts = subst (λ (xs : List Pair). starts_by k xs ≡ true) here-pairs (starts-of l.least b v hi k n up z c)

      module _ (o : Own) (w : Owns p v k h.count o) where
        down : pred (suc up - 1) ≡ up - 1
        down = ap pred (sub-one (suc up)) ∙ sym (sub-one up)

        both : (range_right l.least b v (up - 1) hi k o.page ≡ true)
            × (right_from l.least b v hi (up - 1) p h.count o.next ≡ true)
        both =
            let q = across-on l.least b v hi k n (suc up) (omega arith) (page-of l.least b v hi k n up c)
            (starts-of l.least b v hi k n up z c) p h.count here-pairs o w in
            both_true (range_right l.least b v (up - 1) hi k o.page) (right_from l.least b v hi (up - 1) p h.count o.next)
            (sym (q ∙ ap (λ (u : ℕ). range_right l.least b v u hi k o.page && right_from l.least b v hi u p h.count o.next)
            down) ∙ c)

        pub here-own : range_right l.least b v (up - 1) hi k o.page ≡ true
        here-own = both.0

        pub here-all : right_from l.least b v hi (up - 1) p h.count o.next ≡ true
        here-all = both.1

        pub here-range : (lo : ℕ) → range_below up ps v lo hi k n
            ≡ range_below (up - 1) ps v lo hi k o.page ++ later (up - 1) ps v lo hi p h.count o.next
        here-range lo =
            ap (λ (u : ℕ). range_below u ps v lo hi k n) one_up ∙ followed-through (up - 1) ps v lo hi p h.count k n o w here-pairs
