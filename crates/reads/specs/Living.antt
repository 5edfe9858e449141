-- Life by its guard: judging, then 5.
use Rattle.std.specs.Prelude.{ℕ, List, [], ◌∷◌, leb}
use Rattle.model.specs.Store.{Store}
use Rattle.model.specs.Walk.{key_limit}
use Rattle.model.specs.Calls.{Rule, rule}

-- is the key too large?
abbrev pub living : ℕ → Store → List Rule
living k s = rule 5 (leb key_limit k) ∷ []
