-- A range by its guard, and then by its walk.
use Rattle.std.specs.Prelude.{ℕ, pred, Bool, not, List, [], ◌∷◌, length}
use Rattle.model.specs.declared.Pair.{Pair}
use Rattle.model.specs.Walk.{range_below, range_of}
use Rattle.model.specs.Layout.{decode}
use Rattle.model.specs.Calls.{rule, first_of, ranged_by}
use Rattle.model.specs.Near.{from_root, range_right}
use Rattle.model.specs.Lent.{Listed, listed}

-- what a range gives and leaves in the caller's list by a walk that is right, or not
unfoldable pub answered : List ℕ → Bool → List Pair → Listed
answered ns right xs = listed ns (ranged_by (first_of (rule 4 (not right) ∷ [])) (length ns) xs)

module _ (least : ℕ) (b : List ℕ) (lo hi v : ℕ) (ns : List ℕ) where
  -- what a range gives and leaves by its walk from page n, which is to have this level
  abbrev pub crossed_from : ℕ → ℕ → Listed
  crossed_from level n =
      answered ns (range_right least b v (pred level) hi lo n) (range_below (pred level) (decode least b).pages v lo hi lo n)

  -- what a range gives in which 1, 2, 3, the front, 5 and 6 are settled
  unfoldable pub crossed : Listed
  crossed = answered ns (from_root least b v (λ up n. range_right least b v up hi lo n)) (range_of (decode least b) lo hi v)
