-- A life as the code has it: what an answer tells of a stretch of versions.
use Rattle.std.specs.Prelude.{ℕ, List, [], ◌∷◌}
use Rattle.std.proofs.Math.Option.{Option, none, some}
use Rattle.model.specs.declared.Stretch.{Stretch}
use Rattle.model.specs.Still.{stretch}

-- what an answer tells that is shown from v up to e
abbrev pub shown : ℕ → ℕ → Option ℕ → List Stretch
shown v e (some x) = stretch v e x ∷ []
shown v e none = []
