-- Visits and difference by their guard: 5, then 6.
use Rattle.std.specs.Prelude.{ℕ, Bool, List, [], ◌∷◌}
use Rattle.model.specs.Store.{Store}
use Rattle.model.specs.Calls.{Rule, rule, unreadable}

-- are the keys wrong? then the version
abbrev pub reading : Bool → ℕ → Store → List Rule
reading bad v s = rule 5 bad ∷ rule 6 (unreadable s v) ∷ []
