-- What the plan's values stand for.
use Rattle.std.specs.Prelude.{ℕ, zero, suc, ◌+◌, ◌<◌, ◌≤◌, ◌≡◌, Bool, true, false, List, [], ◌∷◌, length, get_or, Option, None, Some, Result, Ok, Err}
use Rattle.model.specs.declared.Limits.{Limits}
use Rattle.model.specs.declared.refusal.Refusal.{Refusal}
use Rattle.model.specs.Walk as walk
use Rattle.outlook.specs.Plan as plan
use Rattle.edit.specs.declared.Change.{Change}
use Rattle.edit.specs.Change.{change_of}
use Rattle.edit.specs.Fill.{nil}
use Rattle.gather.specs.Kept.{Fits}
use Rattle.parts.specs.Kept.{Inside}
use Rattle.group.specs.declared.Around.{Around}
use Rattle.group.specs.Group.{around_of, Placed}
use Rattle.plan.specs.declared.Way.{Way}

unfoldable pub planned_of : Result (Option (Change × ℕ)) Refusal → plan.Planned
planned_of (Ok None) = plan.settles
planned_of (Ok (Some x)) = plan.rises (change_of x.0) x.1
planned_of (Err r) = plan.fails

-- the change that rises fits a page's entries, and at the most two more pages are free
abbrev pub PlannedFits : ℕ → Result (Option (Change × ℕ)) Refusal → Type 0
PlannedFits left (Ok None) = Unit {0}
PlannedFits left (Ok (Some x)) = Fits x.0 × (x.1 ≤ left + 2)
PlannedFits left (Err r) = Unit {0}

-- does another page become the root?
unfoldable pub outlook_of : Result Bool Refusal → plan.Outlook
outlook_of (Ok false) = plan.keeps_root
outlook_of (Ok true) = plan.moves_root
outlook_of (Err r) = plan.lacks_page

-- ---- the way, the leaf's place first

abbrev pub nowhere : Around
nowhere = record { left = None; own = nil; right = None }

unfoldable pub ups_of : List Around → ℕ → List walk.Around
ups_of xs zero = []
ups_of xs (suc n) = around_of (get_or xs n nowhere) ∷ ups_of xs n

-- the way leads to pages of the store
pub record Led (l : Limits) (b : List ℕ) (way : Way) : Type 0 where
  pub root : Inside l b way.root
  pub size : length way.list ≡ 8
  pub few : way.n ≤ 8
  pub at : (k : ℕ) → k < way.n → Placed l b (get_or way.list k nowhere)
