-- What a walk judged with `left` visits left says: that it is right, with fewer left, or that it is wrong; where they are spent, nothing.
use Rattle.std.specs.Prelude.{ℕ, ◌<◌, Bool, true, false, ◌≡◌, Result, Ok, Err}
use Rattle.near.specs.declared.within.Unsettled.{Unsettled}
use Rattle.near.specs.declared.within.Unsettled.TheVariants.{Wrong, Spent}

abbrev pub NearRight : (left : ℕ) (x : Bool) → Result ℕ Unsettled → Type 0
NearRight left x (Ok rest) = (rest < left) × (x ≡ true)
NearRight left x (Err Wrong) = x ≡ false
NearRight left x (Err Spent) = Unit {0}
