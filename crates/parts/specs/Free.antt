-- The free pages of a store, lowest first.
use Rattle.std.specs.Prelude.{ℕ, ◌+◌, ◌<◌, ◌≤◌, ◌≡◌, List, [], ◌∷◌, drop}
use Rattle.model.specs.Page.{Page}
use Rattle.model.specs.Store.{free_from}

-- those from page n on
unfoldable pub free_past : List Page → ℕ → List ℕ
free_past ps n = free_from n (drop n ps)

-- r is the first of them, or the number of pages
pub record Found (ps : List Page) (n size r : ℕ) : Type 0 where
  pub low : n ≤ r
  pub high : r ≤ size
  pub some : r < size → free_past ps n ≡ r ∷ free_past ps (r + 1)
  pub none : size ≤ r → free_past ps n ≡ []
