-- A difference by its guard: judging, then 6 for either version.
use Rattle.std.specs.Prelude.{ℕ, List, [], ◌∷◌}
use Rattle.model.specs.Store.{Store}
use Rattle.model.specs.Calls.{Rule, rule}
use Rattle.model.specs.Differ.{either_unreadable}

-- "either version above last", or below the oldest
abbrev pub differing : ℕ → ℕ → Store → List Rule
differing u v s = rule 6 (either_unreadable s u v) ∷ []
