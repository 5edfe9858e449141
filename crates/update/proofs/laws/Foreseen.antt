-- The number that an update will come to, by what is foreseen of the root. Assumes nothing.
use mathlib.Core.Bool.{Bool, true, false}
use mathlib.Core.Path.{◌≡◌, ap, sym, ◌∙◌}
use Rattle.std.specs.Prelude.{Ok, Err}
use Rattle.model.specs.declared.refusal.Refusal.{Refusal}
use Rattle.model.specs.declared.refusal.Refusal.TheVariants.{NoPageFree}
use Rattle.model.specs.Basic.{pick}
use Rattle.model.specs.Refusals.{number_of}
use Rattle.outlook.specs.Plan as plan
use Rattle.outlook.specs.Plan.{outlook_number}
use Rattle.plan.specs.Plan.{outlook_of}

-- by what the root comes to
module _ (b : Bool) (x : plan.Outlook) where
  pub lacks-number : (r : Refusal) → outlook_of (Err r) ≡ x → r ≡ NoPageFree → number_of r ≡ outlook_number b x
  unfolding outlook_of outlook_number
  lacks-number r e f = ap number_of f ∙ ap (outlook_number b) e

  pub keeps-number : outlook_of (Ok false) ≡ x → 0 ≡ outlook_number b x
  unfolding outlook_of outlook_number
  keeps-number e = ap (outlook_number b) e

  pub moves-number : outlook_of (Ok true) ≡ x → (a : Bool) → b ≡ a → pick a 0 13 ≡ outlook_number b x
  unfolding outlook_of outlook_number
  moves-number e a f = ap (λ (c : Bool). pick c 0 13) (sym f) ∙ ap (outlook_number b) e
