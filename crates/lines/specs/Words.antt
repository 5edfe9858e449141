-- Where a piece of a text ends.
-- Assumes nothing.
use Rattle.std.specs.Prelude.{ℕ, suc, Bool, true, false, List, [], ◌∷◌, ◌==◌}

abbrev pub until_by : Bool → ℕ → ℕ
until_by true n = 0
until_by false n = suc n

-- how many bytes stand before the first mark, or in all
unfoldable pub until : ℕ → List ℕ → ℕ
until mark [] = 0
until mark (b ∷ bs) = until_by (b == mark) (until mark bs)
