-- A lookup that judges each page it comes to: what it answers from a page on, and the laws of one step.
use Rattle.std.specs.Prelude.{ℕ, Bool, not, List, [], ◌∷◌}
use Rattle.std.proofs.Math.Option.{Option}
use Rattle.model.specs.Looked.{Looked}
use Rattle.model.specs.Walk.{lookup}
use Rattle.model.specs.Layout.{decode}
use Rattle.model.specs.Calls.{rule, first_of, looked_by}
use Rattle.model.specs.Near.{down_right, from_root}

module _ (least : ℕ) (b : List ℕ) (v k : ℕ) where
  -- by a walk that is right, or not
  abbrev by : Bool → Option ℕ → Looked
  by right o = looked_by (first_of (rule 4 (not right) ∷ [])) o

  -- the answer of a lookup in which 1, 2, 3, the front, 5 and 6 are settled
  unfoldable pub walked : Looked
  walked = by (from_root least b v (λ up n. down_right least b v up k n)) (lookup (decode least b) k v)
