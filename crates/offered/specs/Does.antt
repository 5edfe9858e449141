-- What a function does, said of its code: of the program that is proved, and not of the words of its contract.
-- Assumes nothing.
use seplogic.Ra.Ura.{Ura}
use base.Logic.{SProp, emp}
use prog.Model.{Model}
use prog.Wired.{Code, Wired}
use mir.Syntax.{Callee}
use types.Logic.{Logic}
use contract.Monad.{fact}
use contract.Lifetimes.{Lfts}
use contract.Running.{Running}
use denote.Triple.Entry.{Args, Res}
use denote.Triple.Spec.{Meets}
use denote.Triple.Clauses.{Ended, Clauses, AtExit, closing}

module _ (T : Ended) where
  -- said of a call: of what it was handed, what it gave, and what stands then behind the references that it was lent
  abbrev pub Says : Type 1
  Says = (κs : Lfts T.signature.lifetimes) → Args T.signature κs → Res T.signature κs → AtExit T κs → Type 0

  -- the same as the logic has it, at one model of the machine
  abbrev pub Owed : {M : Type 1} → Ura M → Type 2
  Owed 𝓤 = (κs : Lfts T.signature.lifetimes) → Args T.signature κs → Res T.signature κs → AtExit T κs → SProp 𝓤

  -- a contract with no premise, and a function that meets it in every model: wherever its name, and the name of each function that it
  -- calls, stands for the code that was proved
  abbrev pub always : {M : Type 1} (𝓤 : Ura M) → Owed 𝓤 → Clauses 𝓤 T
  always 𝓤 E κs a = record { ghost = Unit {0}; requires = λ g. emp 𝓤; ensures = λ g r e. E κs a r e }

  abbrev pub Holds : Code → Callee → (M : Type 1) → ((𝓤 : Ura M) → Owed 𝓤) → Type 2
  Holds c n M E =
      (𝓤 : Ura M) (𝓛 : Logic 𝓤) (𝓜 : Model 𝓤 𝓛.H) (𝓡 : Running 𝓤 𝓛.H 𝓜)
      → Wired 𝓡.env c
      → Meets 𝓛 T.signature (𝓡.run (𝓡.env n)) (closing 𝓛 T (always 𝓤 (E 𝓤)))

  -- the function does P: whatever it is called with, it comes back, and P holds
  abbrev pub Does : Code → Callee → Says → Type 1 → Type 2
  Does c n P M = Holds c n M (λ 𝓤 κs a r e. fact 𝓤 (P κs a r e))
