-- Lists of pairs by value: what one holds, with a pair more, and with a part of another behind it.
use Rattle.std.specs.Prelude.{ℕ, ◌≤◌, ◌≡◌, List, length, get_or, take}
use Rattle.model.specs.declared.Pair.{Pair}
use Rattle.edit.specs.Fill.{nil, Fitting}
use Rattle.gather.specs.declared.Gather.{Gather}

-- the pairs that it holds
unfoldable pub pairs_in : Gather → List Pair
pairs_in g = take g.n g.list

-- each pair fits an entry
pub record Good (g : Gather) : Type 0 where
  pub size : length g.list ≡ 56
  pub room : g.n ≤ 56
  pub fits : (k : ℕ) → Fitting (get_or g.list k nil)

-- it holds these
pub record Lists (g : Gather) (xs : List Pair) : Type 0 where
  pub good : Good g
  pub is : pairs_in g ≡ xs
