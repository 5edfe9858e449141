-- A pair's place among pairs that stand by key.
use Rattle.std.specs.Prelude.{ℕ, suc, List, [], ◌∷◌, ltb}
use Rattle.model.specs.declared.Pair.{Pair}
use Rattle.model.specs.Basic.{pick}

-- before the first pair whose key is greater
unfoldable pub place_in : ℕ → List Pair → ℕ
place_in k [] = 0
place_in k (x ∷ xs) = pick (ltb k x.key) 0 (suc (place_in k xs))
