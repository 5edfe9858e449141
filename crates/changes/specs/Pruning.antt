-- A prune by its guard: 3 for edition 1, then judging, 6 and 8.
use Rattle.std.specs.Prelude.{ℕ, List}
use Rattle.model.specs.Store.{Store}
use Rattle.model.specs.Calls.{Rule, prune_tests}

abbrev pub pruning : ℕ → Store → List Rule
pruning v s = prune_tests s.oldest s.current s.opened v
