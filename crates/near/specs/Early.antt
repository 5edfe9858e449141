-- The chain of a reading: 1, 2, 3, 4 by the front, 5, 6; and behind them 4 by the walk.
use Rattle.std.specs.Prelude.{ℕ, Bool, List, [], ◌∷◌}
use Rattle.model.specs.Layout.{decode}
use Rattle.model.specs.Calls.{unreadable, rule, first_of}
use Rattle.model.specs.Near.{early}

module _ (least : ℕ) (b : List ℕ) where
  -- 1 to 4 by the front
  unfoldable pub fronted : ℕ
  fronted = first_of (early least b [])

  -- and 5 and 6
  unfoldable pub guarded : Bool → ℕ → ℕ
  guarded bad v = first_of (early least b (rule 5 bad ∷ rule 6 (unreadable (decode least b) v) ∷ []))
