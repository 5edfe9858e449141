-- The whole update of a sound store: what is foreseen is what it comes to, and with 0 nothing stands in its way.
use Rattle.std.specs.Prelude.{ℕ, ◌≡◌}
use Rattle.model.specs.Store.{Store}
use Rattle.model.specs.Climb.{Result, done}
use Rattle.model.specs.ByRule.{Sound}

-- a change that leaves the store sound
abbrev pub LeavesSound : ℕ → Result → Type 0
LeavesSound least r = (t : Store) → r ≡ done t → Sound least t
