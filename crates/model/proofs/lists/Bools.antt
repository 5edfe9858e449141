-- Tests that are true or false, what they decide, and a test as a bit.
-- Assumes nothing.
use Prim.Native.Nat.{ℕ}
use mathlib.Core.Bool.{Bool, true, false, ◌&&◌}
use mathlib.Core.Option.{Option, none, some}
use mathlib.Core.Path.{◌≡◌, refl, sym}
use mathlib.Core.Logic.{◌⊎◌, inl, inr, ◌≢◌}
use lib.Dec.{eqb}
use borrow.Author.Tests.{eqb-true, eqb-false}
use Rattle.model.specs.Calls.{is_some}
use Rattle.model.specs.Layout.{bit}
use Rattle.model.proofs.lists.Members.{not-both}

pub clash : {A : Type 0} → true ≡ false → A
clash e = absurd (not-both true refl e)

-- where one of two fails, both together fail
pub fails-left : (a b : Bool) → a ≡ false → (a && b) ≡ false
fails-left a b e = rw e

pub fails-right : (a b : Bool) → b ≡ false → (a && b) ≡ false
fails-right true b e = e
fails-right false b e = refl

-- two tests that imply each other are one
pub same_test : (a b : Bool) → (a ≡ true → b ≡ true) → (b ≡ true → a ≡ true) → a ≡ b
same_test true b f g = sym (f refl)
same_test false true f g = g refl
same_test false false f g = refl

pub same? : (m n : ℕ) → (m ≡ n) ⊎ (m ≢ n)
same? m n = at (eqb m n) refl
  where
    at : (b : Bool) → eqb m n ≡ b → (m ≡ n) ⊎ (m ≢ n)
    at true e = inl (eqb-true m n e)
    at false e = inr (eqb-false m n e)

pub is_none : (o : Option ℕ) → is_some o ≡ false → o ≡ none
is_none none h = refl
is_none (some x) h = clash h

pub bit-back : (b : Bool) → eqb (bit b) 1 ≡ b
bit-back true = refl
bit-back false = refl
