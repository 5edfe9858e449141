-- Where a key stands among the entries of a page: "Entries stand by key", so those with smaller keys stand first.
use Rattle.std.specs.Prelude.{ℕ, ◌+◌, ◌≤◌, ◌<◌, List}
use Rattle.walk.specs.Scan.{entry}

-- the first r of m entries have their keys under k, and the next one, if there is one, has not
pub record Place (p : List ℕ) (k m r : ℕ) : Type 0 where
  pub within : r ≤ m
  pub below : (i : ℕ) → i < r → (entry p i).key < k
  pub next : r < m → k ≤ (entry p r).key

-- the first r have their keys under k, and the one four places on, if there is one, has not
pub record Fives (p : List ℕ) (k n r : ℕ) : Type 0 where
  pub within : r ≤ n
  pub below : (i : ℕ) → i < r → (entry p i).key < k
  pub next : r + 4 < n → k ≤ (entry p (r + 4)).key
