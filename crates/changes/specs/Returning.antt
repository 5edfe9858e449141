-- A return by its guard: 6, then 7.
use Rattle.std.specs.Prelude.{ℕ, List}
use Rattle.model.specs.Store.{Store}
use Rattle.model.specs.Calls.{Rule}
use Rattle.model.specs.Return.{return_tests}

abbrev pub returning : ℕ → Store → List Rule
returning v s = return_tests s.oldest s.current s.opened v
