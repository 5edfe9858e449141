-- Laws about near/specs/Within. Assumes nothing.
use Prim.Native.Nat.{ℕ}
use mathlib.Core.Bool.{Bool, ◌&&◌}
use mathlib.Core.Path.{◌≡◌, ap, ◌∙◌}
use Rattle.std.specs.Prelude.{Err}
use Rattle.near.specs.declared.within.Unsettled.{Unsettled}
use Rattle.near.specs.declared.within.Unsettled.TheVariants.{Wrong, Spent}
use Rattle.near.specs.Within.{NearRight}

-- where a first part was not found right, the whole was not: it is right if that part is, and the rest
pub unsettled : (left rest : ℕ) (x y z : Bool) → x ≡ (y && z) → (e : Unsettled) → NearRight rest y (Err e) → NearRight left x (Err e)
unsettled left rest x y z q Wrong h = q ∙ ap (λ (b : Bool). b && z) h
unsettled left rest x y z q Spent h = tt
