-- A walk told by one number: 0 where it is wrong, else one more than the settings that it finds. Two walks one after the other are told
-- by the two numbers.
use Rattle.std.specs.Prelude.{ℕ, zero, suc, ◌+◌, Bool, true, false}

unfoldable pub told : Bool → ℕ → ℕ
told true k = suc k
told false k = 0

unfoldable pub join : ℕ → ℕ → ℕ
join zero c = zero
join (suc a) zero = zero
join (suc a) (suc c) = suc (a + c)
