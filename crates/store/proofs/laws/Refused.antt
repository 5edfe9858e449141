-- What the exit of a `?` gives, as the definitions have it. Assumes nothing.
use Rattle.std.specs.Prelude.{ℕ, List, Option, Result}
use Rattle.std.specs.Result.{IsErrAnd}
use Rattle.std.proofs.lemmas.Result.{err_from_is_err_and}
use mathlib.Core.Path.{◌≡◌, refl, ap}
use mathlib.Core.Logic.{◌≢◌}
use native.Mathlib.Omega.{arith}
use Rattle.model.specs.declared.State.{State}
use Rattle.model.specs.declared.refusal.Refusal.{Refusal}
use Rattle.model.specs.declared.refusal.Refusal.TheVariants
use Rattle.model.specs.declared.refusal.ListRefusal.{ListRefusal}
use Rattle.model.specs.declared.refusal.ListRefusal.TheVariants.{Refused as NotTold}
use Rattle.model.specs.Looked.{Refused}
use Rattle.model.specs.Lent.{leaving}
use Rattle.model.specs.State.{untold}
use Rattle.model.specs.Refusals.{number_of, number_in, listed_in, looked_in, state_in}

-- no reason for refusing is 0
pub refuses-some : (r : Refusal) → number_of r ≢ 0
refuses-some TheVariants.WrongLength e = absurd (omega arith)
refuses-some TheVariants.WrongFirstBytes e = absurd (omega arith)
refuses-some TheVariants.WrongEdition e = absurd (omega arith)
refuses-some TheVariants.NotSound e = absurd (omega arith)
refuses-some TheVariants.KeyTooLarge e = absurd (omega arith)
refuses-some TheVariants.VersionAboveLast e = absurd (omega arith)
refuses-some TheVariants.NoUpdateOpen e = absurd (omega arith)
refuses-some TheVariants.UpdateAlreadyOpen e = absurd (omega arith)
refuses-some TheVariants.VersionsUsedUp e = absurd (omega arith)
refuses-some TheVariants.KeyAlive e = absurd (omega arith)
refuses-some TheVariants.KeyNotAlive e = absurd (omega arith)
refuses-some TheVariants.NoPageFree e = absurd (omega arith)
refuses-some TheVariants.NoSlotFree e = absurd (omega arith)
refuses-some TheVariants.NothingChanged e = absurd (omega arith)
refuses-some TheVariants.ValueNotAdmitted e = absurd (omega arith)
refuses-some TheVariants.KeyUnknown e = absurd (omega arith)

module _ (x : Refusal) where
  pub number-err : {A : Type 0} (r : Result A Refusal) → IsErrAnd r (λ y. y ≡ x) → number_in r ≡ number_of x
  number-err r h = let p = err_from_is_err_and r h in rw (p.1, p.2) refl

  pub leaving-err : {A : Type 0} (b : List ℕ) (r : Result A Refusal) → IsErrAnd r (λ y. y ≡ x)
      → leaving (number_in r) b ≡ leaving (number_of x) b
  leaving-err b r h = ap (λ (n : ℕ). leaving n b) (number-err r h)

  pub looked-err : (r : Result (Option ℕ) Refusal) → IsErrAnd r (λ y. y ≡ x) → looked_in r ≡ Refused (number_of x)
  looked-err r h = let p = err_from_is_err_and r h in rw (p.1, p.2) refl

  pub state-err : (r : Result State Refusal) → IsErrAnd r (λ y. y ≡ x) → state_in r ≡ untold (number_of x)
  state-err r h = let p = err_from_is_err_and r h in rw (p.1, p.2) refl

  pub listed-err : (ns : List ℕ) (r : Result ℕ ListRefusal) → IsErrAnd r (λ y. y ≡ NotTold x)
      → listed_in r ns ≡ record { number = number_of x; count = 0; list = ns }
  listed-err ns r h = let p = err_from_is_err_and r h in rw (p.1, p.2) refl
