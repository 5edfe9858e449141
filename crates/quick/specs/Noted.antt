-- Where the notes stand in for the pages' own tests.
use Rattle.std.specs.Prelude.{ℕ, ◌≤◌, true, ◌≡◌}
use Rattle.model.specs.Store.{Store}
use Rattle.model.specs.Sound.{rule1, rule2, rule3}

-- a store of which rules 1 to 3 hold
pub record ThreeRules (least : ℕ) (s : Store) : Type 0 where
  pub two : 2 ≤ least
  pub first : rule1 least s ≡ true
  pub second : rule2 s ≡ true
  pub third : rule3 s ≡ true
