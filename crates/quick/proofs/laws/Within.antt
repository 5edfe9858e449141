-- Laws about quick/specs/Within. Assumes nothing.
use Prim.Native.Nat.{ℕ, ◌-◌, ◌<◌, ◌≤◌}
use native.Mathlib.Omega.{arith}
use mathlib.Core.Bool.{Bool, true, false}
use mathlib.Core.Path.{◌≡◌, ◌∙◌}
use lib.Dec.{ltb}
use borrow.Author.Tests.{lt-ltb, le-ltb}
use Rattle.std.specs.Prelude.{Result, Ok, Err, IsErrAnd}
use Rattle.std.proofs.lemmas.Result.{err_from_is_err_and}
use Rattle.model.specs.Basic.{pick}
use Rattle.quick.specs.declared.within.Stop.{Stop}
use Rattle.quick.specs.declared.within.Stop.TheVariants.{Wrong, UsedUp}
use Rattle.quick.specs.Within.{QuickRight}

-- ---- what is left once a page was read for the stretch from a up to, not including, b: for an empty one none is

module _ (left : ℕ) where
  pub spent : (a b : ℕ) → a < b → left - 1 ≤ left - pick (ltb a b) 1 0
  spent a b l = rw (lt-ltb a b l) (omega arith)

  pub unspent : (a b : ℕ) → b ≤ a → left ≤ left - pick (ltb a b) 1 0
  unspent a b l = rw (le-ltb a b l) (omega arith)

  pub fewer : (t : Bool) → left - pick t 1 0 ≤ left
  fewer true = omega arith
  fewer false = omega arith

-- x was found as y, once `rest` was left
module _ (left rest : ℕ) (x y : Bool) where
  pub handed : rest ≤ left → x ≡ y → (r : Result ℕ Stop) → QuickRight rest y r → QuickRight left x r
  handed le q (Ok n) k = (omega (arith, k.0), q ∙ k.1)
  handed le q (Err Wrong) k = q ∙ k
  handed le q (Err UsedUp) k = tt

  -- where y stops, x does: at the exit of a `?`
  pub stops : (y ≡ false → x ≡ false) → (e : Stop) → QuickRight rest y (Err e) → (r : Result ℕ Stop) → IsErrAnd r (λ d. d ≡ e)
      → QuickRight left x r
  stops f e k r i = let p = err_from_is_err_and r i in rw (p.1, p.2) (at e k)
    where
      at : (e : Stop) → QuickRight rest y (Err e) → QuickRight left x (Err e)
      at Wrong k = f k
      at UsedUp k = tt
