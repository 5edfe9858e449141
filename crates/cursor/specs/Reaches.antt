-- The way down to the leaf for a key, with the key at which the next leaf begins.
use Rattle.std.specs.Prelude.{ℕ, suc, ◌≤◌, ◌<◌, true, ◌≡◌, List, ◌++◌}
use Rattle.model.specs.declared.Pair.{Pair}
use Rattle.model.specs.Page.{Page, pairs_at}
use Rattle.model.specs.Store.{page}
use Rattle.model.specs.Walk.{key_limit}
use Rattle.model.specs.Tree.{Holds, in_range}

-- Page n, `up` levels above the leaves, has the keys from `low` up to, not including, `high`, and k is one of them; what it shows
-- stands so in the whole.
pub record Reaches (least v : ℕ) (ps : List Page) (whole : List Pair) (up n k high : ℕ) : Type 0 where
  pub low : ℕ
  pub shown : List Pair
  pub before : List Pair
  pub after : List Pair
  pub level : (page ps n).level ≡ suc up
  pub holds : Holds least v up ps low high (pairs_at v (page ps n)) shown
  pub from : low ≤ k
  pub below : k < high
  pub top : high ≤ key_limit
  pub is : whole ≡ before ++ (shown ++ after)
  pub lefts : in_range 0 low before ≡ true
  pub rights : in_range high key_limit after ≡ true
