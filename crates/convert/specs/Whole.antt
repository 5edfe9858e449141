-- The whole conversion on bytes: a fresh target, the replay, and a fresh target again where a step is refused.
use Rattle.std.specs.Prelude.{ℕ, List}
use Rattle.model.specs.Layout.{size_of, decode}
use Rattle.model.specs.Lent.{Outcome, left_by}
use Rattle.model.specs.Convert.{converted}

-- what a call of the core asks, and what it comes to
abbrev pub converted_to : List ℕ → List ℕ → Outcome
converted_to a b = left_by 8 b (converted 8 (decode 4 a) (size_of 8 b))
