-- The answers of the tests of length and name, case by case. Assumes nothing.
use Prim.Native.Nat.{ℕ}
use mathlib.Core.Bool.{true, false}
use mathlib.Core.Path.{◌≡◌, refl}
use mathlib.Core.List.{List, [], ◌∷◌}
use lib.Dec.{eqb}
use native.Mathlib.Omega.{arith}
use lib.Pointwise.{pointwise}
use Rattle.model.specs.Basic.{eq_list}
use Rattle.model.specs.Layout.{size_of, encode}
use Rattle.model.specs.Store.{fresh}
use Rattle.model.specs.Judged.{length_ok}
use Rattle.model.specs.Lent.{fresh_lent}

-- ---- name

eqb-sym : (x y : ℕ) → eqb x y ≡ eqb y x
eqb-sym x y = grind arith

-- two lists compared from either side
pub name-test : (xs ys : List ℕ) → pointwise eqb xs ys ≡ eq_list ys xs
name-test [] [] = refl
name-test [] (y ∷ ys) = refl
name-test (x ∷ xs) [] = refl
name-test (x ∷ xs) (y ∷ ys) = rw (eqb-sym x y, name-test xs ys)

-- ---- making fresh

module _ (least : ℕ) (b : List ℕ) where
  pub refused-number : length_ok least b ≡ false → 1 ≡ (fresh_lent least b).number
  unfolding fresh_lent
  refused-number e = rw e

  pub refused-store : length_ok least b ≡ false → b ≡ (fresh_lent least b).store
  unfolding fresh_lent
  refused-store e = rw e

  pub done-number : length_ok least b ≡ true → 0 ≡ (fresh_lent least b).number
  unfolding fresh_lent
  done-number e = rw e

  pub done-store : length_ok least b ≡ true → encode least (fresh (size_of least b)) ≡ (fresh_lent least b).store
  unfolding fresh_lent
  done-store e = rw e
