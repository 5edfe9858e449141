-- What the rules leave is what the definitions say: killed, ended, restored.
use Rattle.std.specs.Prelude.{ℕ, zero, suc, List, [], ◌∷◌}

-- the first n of two keys
abbrev pub first_of : ℕ → ℕ → ℕ → List ℕ
first_of zero a b = []
first_of (suc zero) a b = a ∷ []
first_of (suc (suc n)) a b = a ∷ b ∷ []
