-- A pass of a return: the deletes, or the inserts, that what differs from the open version to the other asks for, in rising key order.
use Rattle.std.specs.Prelude.{ℕ, Bool, true, false, List}
use Rattle.model.specs.Basic.{those}
use Rattle.model.specs.declared.Delta.{Delta}
use Rattle.model.specs.Store.{Store}
use Rattle.model.specs.Climb.{Result}
use Rattle.model.specs.Return.{goes, comes, end_one, set_one, Ran, through}

-- which differences a pass is for: does it insert?
abbrev pub wants : Bool → Delta → Bool
wants true = comes
wants false = goes

-- and its step
abbrev pub step : Bool → ℕ → Store → Delta → Result
step true = set_one
step false = end_one

-- a pass over differences
abbrev pub passed : Bool → ℕ → List Delta → Store → Ran
passed insert least ds s = through (step insert least) (those (wants insert) ds) s
