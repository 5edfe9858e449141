-- Laws about near/specs/Crossed. Assumes nothing.
use Prim.Native.Nat.{ℕ, zero, suc, pred, ◌<◌}
use native.Mathlib.Omega.{arith}
use mathlib.Core.Bool.{Bool, true, false, ◌&&◌, not}
use mathlib.Core.Path.{◌≡◌, refl, ap, sym, ◌∙◌}
use mathlib.Core.List.{List, [], ◌∷◌}
use lib.Dec.{eqb}
use lib.ListN.{length}
use borrow.Author.Tests.{ne_eqb}
use Rattle.model.specs.declared.Pair.{Pair}
use Rattle.model.specs.Page.{Page}
use Rattle.model.specs.Store.{page}
use Rattle.model.specs.Walk.{root_at, range_below, range_of}
use Rattle.model.specs.Layout.{decode}
use Rattle.model.specs.Calls.{unreadable, Rule, rule, first_of, ranged_by, bad_range}
use Rattle.model.specs.Near.{from_root, range_right, early, range_near}
use Rattle.model.specs.Lent.{judged_first, Listed, listed, range_lent}
use Rattle.near.specs.Early.{guarded}
use Rattle.near.proofs.laws.Early.{chain-on, numbers}
use Rattle.near.specs.Crossed.{answered, crossed, crossed_from}

pub answered-wrong : (ns : List ℕ) (right : Bool) (xs : List Pair) → right ≡ false
    → record { number = 4; count = 0; list = ns } ≡ answered ns right xs
unfolding answered ranged_by
answered-wrong ns right xs e = sym (rw e)

pub answered-right : (ns : List ℕ) (right : Bool) (xs : List Pair) → right ≡ true
    → listed ns (ranged_by 0 (length ns) xs) ≡ answered ns right xs
unfolding answered
answered-right ns right xs e = sym (rw e)

module _ (least : ℕ) (b : List ℕ) (lo hi v : ℕ) (ns : List ℕ) where
  abbrev ps : List Page
  ps = (decode least b).pages

  abbrev root : ℕ
  root = root_at (decode least b).slots v

  -- a number, and the list as it was
  abbrev pub kept : ℕ → Listed
  kept n = record { number = n; count = 0; list = ns }

  pub cross-free : (page ps root).level ≡ 0 → kept 4 ≡ crossed least b lo hi v ns
  unfolding crossed
  cross-free e =
      answered-wrong ns (not (eqb (page ps root).level 0) && range_right least b v (pred (page ps root).level) hi lo root)
      (range_of (decode least b) lo hi v)
      (ap (λ (x : ℕ). not (eqb x 0) && range_right least b v (pred x) hi lo root) e)

  at_level_lem : (up : ℕ) → (page ps root).level ≡ suc up
      → crossed least b lo hi v ns ≡ answered ns (range_right least b v up hi lo root) (range_below up ps v lo hi lo root)
  unfolding crossed
  at_level_lem up e =
      ap (λ (x : ℕ). answered ns (not (eqb x 0) && range_right least b v (pred x) hi lo root) (range_below (pred x) ps v lo hi lo root)) e
      ∙ ap (λ (t : Bool). answered ns (not t && range_right least b v up hi lo root) (range_below up ps v lo hi lo root))
      (ne_eqb (suc up) 0 (λ q. omega arith))

  pub cross_at : (up : ℕ) → (page ps root).level ≡ suc up → range_right least b v up hi lo root ≡ true
      → crossed least b lo hi v ns ≡ listed ns (ranged_by 0 (length ns) (range_below up ps v lo hi lo root))
  cross_at up e f = at_level_lem up e ∙ sym (answered-right ns (range_right least b v up hi lo root) (range_below up ps v lo hi lo root) f)

  pub cross-not : (up : ℕ) → (page ps root).level ≡ suc up → range_right least b v up hi lo root ≡ false → kept 4 ≡ crossed least b lo hi v ns
  cross-not up e f = answered-wrong ns (range_right least b v up hi lo root) (range_below up ps v lo hi lo root) f ∙ sym (at_level_lem up e)

  -- by the walk from the root
  pub cross-by : (level : ℕ) → 0 < level → (page ps root).level ≡ level
      → crossed_from least b lo hi v ns level root ≡ crossed least b lo hi v ns
  cross-by zero h e = absurd (omega arith)
  cross-by (suc up) h e = sym (at_level_lem up e)

  -- ---- by its guard

  pub range-by : range_lent least b lo hi v ns ≡ judged_first (guarded least b (bad_range lo hi) v) kept (crossed least b lo hi v ns)
  unfolding range_lent range_near guarded crossed answered
  range-by =
      let rs : List Rule = early least b (rule 5 (bad_range lo hi) ∷ rule 6 (unreadable (decode least b) v) ∷ []) in
      let q : List Rule = rule 4 (not (from_root least b v (λ up n. range_right least b v up hi lo n))) ∷ [] in
      ap (λ (n : ℕ). listed ns (ranged_by n (length ns) (range_of (decode least b) lo hi v)))
      (chain-on rs q
      (numbers least b (rule 5 (bad_range lo hi) ∷ rule 6 (unreadable (decode least b) v) ∷ []) (omega arith, (omega arith, tt))))
      ∙ at (first_of rs) (first_of q)
    where
      at : (n m : ℕ) → listed ns (ranged_by (judged_first n (λ j. j) m) (length ns) (range_of (decode least b) lo hi v))
          ≡ judged_first n kept (listed ns (ranged_by m (length ns) (range_of (decode least b) lo hi v)))
      at zero m = refl
      at (suc n) m = unfold ranged_by in refl

  module _ (n : ℕ) (e : n ≡ guarded least b (bad_range lo hi) v) where
    pub range-refused : (n ≡ 0 → ⊥) → kept n ≡ range_lent least b lo hi v ns
    range-refused z = at n z ∙ ap (λ (m : ℕ). judged_first m kept (crossed least b lo hi v ns)) e ∙ sym range-by
      where
        at : (m : ℕ) → (m ≡ 0 → ⊥) → kept m ≡ judged_first m kept (crossed least b lo hi v ns)
        at zero z = absurd (z refl)
        at (suc m) z = refl

    pub range-crossed : n ≡ 0 → crossed least b lo hi v ns ≡ range_lent least b lo hi v ns
    range-crossed z = sym (range-by ∙ ap (λ (m : ℕ). judged_first m kept (crossed least b lo hi v ns)) (sym e ∙ z))
