-- Laws about tabled/specs/Across. Assumes nothing.
use Prim.Native.Nat.{ℕ, zero, suc, pred, ◌+◌, ◌-◌, ◌<◌}
use native.Mathlib.Omega.{arith}
use native.Mathlib.Numerals.{sub-one}
use mathlib.Core.Bool.{Bool, true, false, ◌&&◌}
use mathlib.Core.Path.{◌≡◌, ap, sym, ◌∙◌}
use mathlib.Core.List.{List, ◌∷◌}
use Rattle.model.specs.Basic.{all}
use Rattle.model.specs.declared.Pair.{Pair}
use Rattle.model.specs.Entry.{pair, pair_of}
use Rattle.model.specs.Page.{Page, pairs_at}
use Rattle.model.specs.Store.{page}
use Rattle.model.specs.Walk.{between, followed}
use Rattle.model.specs.Layout.{decode}
use Rattle.model.proofs.lists.Lists.{both_true}
use Rattle.model.specs.Near.{page_right, starts_by, range_right}
use Rattle.walk.specs.declared.search.Own.{Own}
use Rattle.walk.specs.Live.{live}
use Rattle.walk.specs.Scan.{entry, from, Owns}
use Rattle.walk.proofs.laws.Scan.{next-none}
use Rattle.walk.proofs.laws.Below.{upto-between}
use Rattle.tabled.specs.Across.{under, right_from}

-- one test after the other
pub and-on : (a c : Bool) → a ≡ true → (a && c) ≡ c
and-on a c e = rw e

module _ (least : ℕ) (b : List ℕ) (v hi : ℕ) where
  abbrev ps : List Page
  ps = (decode least b).pages

  module _ (at m : ℕ) where
    pub across-wrong : (level : ℕ) → 0 < level → page_right least b level m ≡ false → false ≡ range_right least b v (pred level) hi at m
    unfolding range_right
    across-wrong zero h e = absurd (omega arith)
    across-wrong (suc zero) h e = sym e
    across-wrong (suc (suc up)) h e = sym (rw e)

    pub across-leaf : (level : ℕ) → level ≡ 1 → page_right least b level m ≡ true → true ≡ range_right least b v (pred level) hi at m
    unfolding range_right
    across-leaf zero h e = absurd (omega arith)
    across-leaf (suc zero) h e = sym e
    across-leaf (suc (suc up)) h e = absurd (omega arith)

    pub across-none : (level : ℕ) → 1 < level → page_right least b level m ≡ true → starts_by at (pairs_at v (page ps m)) ≡ false
        → false ≡ range_right least b v (pred level) hi at m
    unfolding range_right
    across-none zero h e f = absurd (omega arith)
    across-none (suc zero) h e f = absurd (omega arith)
    across-none (suc (suc up)) h e f = sym (rw (e, f))

    -- "follows the last router alive at or below the key, and every later one at or below the high key"
    pub across-on : (level : ℕ) → 1 < level → page_right least b level m ≡ true → starts_by at (pairs_at v (page ps m)) ≡ true
        → (p : List ℕ) (n : ℕ) → pairs_at v (page ps m) ≡ live v (from p 0 n) → (o : Own) → Owns p v at n o
        → range_right least b v (pred level) hi at m
        ≡ (range_right least b v (pred (level - 1)) hi at o.page && right_from least b v hi (pred (level - 1)) p n o.next)
    unfolding range_right right_from
    across-on zero h e f p n q o w = absurd (omega arith)
    across-on (suc zero) h e f p n q o w = absurd (omega arith)
    across-on (suc (suc up)) h e f p n q o w =
        let g : Pair → Bool = λ r. range_right least b v up hi r.key r.value in
        let z : pred (suc (suc up) - 1) ≡ up = ap pred (sub-one (suc (suc up))) in
        rw (e, f)
        (ap (λ (xs : List Pair). all g (followed at hi xs)) q ∙ ap (all g) (w.later hi)
        ∙ ap (λ (xs : List Pair). all g (pair at o.page ∷ xs)) (upto-between hi (live v (from p o.next n)))
        ∙ sym (ap (λ (u : ℕ). range_right least b v u hi at o.page
        && all (λ (r : Pair). range_right least b v u hi r.key r.value) (between 0 hi (live v (from p o.next n)))) z))

  module _ (up : ℕ) (p : List ℕ) (n : ℕ) where
    pub from_on : (i : ℕ) → between 0 hi (live v (from p i n)) ≡ pair_of (entry p i) ∷ between 0 hi (live v (from p (i + 1) n))
        → right_from least b v hi up p n i
        ≡ (range_right least b v up hi (entry p i).key (entry p i).value && right_from least b v hi up p n (i + 1))
    unfolding right_from
    from_on i e = ap (all (under least b v hi up)) e

    pub from-same : (i j : ℕ) → between 0 hi (live v (from p i n)) ≡ between 0 hi (live v (from p j n))
        → right_from least b v hi up p n i ≡ right_from least b v hi up p n j
    unfolding right_from
    from-same i j e = ap (all (under least b v hi up)) e

    pub from_end : (right_from least b v hi) up p n n ≡ true
    unfolding right_from
    from_end = ap (all (under least b v hi up)) (next-none p v 0 hi n)

    -- the next one, and the rest
    pub from_first : (i : ℕ) → between 0 hi (live v (from p i n)) ≡ pair_of (entry p i) ∷ between 0 hi (live v (from p (i + 1) n))
        → right_from least b v hi up p n i ≡ true
        → (range_right least b v up hi (entry p i).key (entry p i).value ≡ true) × (right_from least b v hi up p n (i + 1) ≡ true)
    from_first i e c =
        both_true (range_right least b v up hi (entry p i).key (entry p i).value) (right_from least b v hi up p n (i + 1))
        (sym (from_on i e) ∙ c)
