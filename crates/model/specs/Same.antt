-- When two versions have the same settings.
-- Assumes nothing.
use Rattle.std.specs.Prelude.{Bool, true, false, ◌&&◌, List, [], ◌∷◌, eqb}
use Rattle.model.specs.declared.Pair.{Pair}

-- 2026-05: "equal [..], key for key". Settings stand in key order, so key for key is place for place.
abbrev pub same_pairs : List Pair → List Pair → Bool
same_pairs [] [] = true
same_pairs [] (y ∷ ys) = false
same_pairs (x ∷ xs) [] = false
same_pairs (x ∷ xs) (y ∷ ys) = eqb x.key y.key && (eqb x.value y.value && same_pairs xs ys)
