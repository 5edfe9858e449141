-- Settings told into the caller's list.
use Rattle.std.specs.Prelude.{List, [], ◌∷◌, refl, Option, Some, None}
use Rattle.model.specs.declared.Pair.{Pair}
use Rattle.model.specs.Calls.{pair_numbers}
use Rattle.model.specs.Telling.{Shape}

-- "it writes key, value, key, value"
abbrev pub pairs : Shape Pair
pairs = record { numbers = pair_numbers; each = 2; size = λ p. refl }

-- one thing, or none, as a list
abbrev pub those_in : {A : Type 0} → Option A → List A
those_in None = []
those_in (Some x) = x ∷ []
