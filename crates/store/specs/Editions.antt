-- The edition lent, as the code finds it, and how a call for both editions goes by it.
use Rattle.std.specs.Prelude.{ℕ, List, Result, Ok, Err}
use Rattle.model.specs.declared.Limits.{Limits}
use Rattle.model.specs.declared.refusal.Refusal.{Refusal}
use Rattle.model.specs.Refusals.{number_of}
use Rattle.model.specs.Editions.{lent_number, least_of}

-- a number given before the edition is known, or 0, and the edition by its least
pub record Lent : Type 0 where
  pub number : ℕ
  pub least : ℕ

abbrev pub lent_of : ℕ → ℕ → Lent
lent_of n least = record { number = n; least = least }

abbrev pub lent_as : List ℕ → Lent
lent_as b = lent_of (lent_number b) (least_of b)

-- what the code finds; edition 1 stands where it finds none
abbrev pub lent_in : Result Limits Refusal → Lent
lent_in (Ok l) = lent_of 0 l.least
lent_in (Err r) = lent_of (number_of r) 4
