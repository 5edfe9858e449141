-- The settings at or above a key, and the first of them.
use Rattle.std.specs.Prelude.{ℕ, List, [], ◌∷◌, leb}
use Rattle.model.specs.Basic.{those}
use Rattle.model.specs.declared.Pair.{Pair}
use Rattle.model.specs.Entry.{pair}
use Rattle.model.specs.Walk.{key_limit}

-- the settings at or above a key
abbrev pub at_or_above : ℕ → List Pair → List Pair
at_or_above k xs = those (λ (x : Pair). leb k x.key) xs

-- the first of them; where there is none, a key above all keys
abbrev pub leads : List Pair → Pair
leads [] = pair key_limit 0
leads (x ∷ xs) = x
