-- Quick judging, one test after the other.
use Rattle.std.specs.Prelude.{ℕ, Bool}
use Rattle.model.specs.Basic.{pick}

-- numbers 1 to 3: the length, the name, the edition
abbrev pub refused_by : Bool → Bool → Bool → ℕ
refused_by x y z = pick x (pick y (pick z 0 3) 2) 1
