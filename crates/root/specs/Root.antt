-- The root's step: what its value stands for, and the cases.
use Rattle.model.specs.declared.refusal.Refusal.TheVariants.{NoPageFree}
use Rattle.std.specs.Prelude.{ℕ, ◌≡◌, List, Option, None, Some, Result, Ok, Err, IfErr}
use Rattle.model.specs.declared.Limits.{Limits}
use Rattle.model.specs.declared.refusal.Refusal.{Refusal}
use Rattle.model.specs.Page.{Page}
use Rattle.model.specs.Climb as climb
use Rattle.parts.specs.Kept.{pages_of}
use Rattle.parts.specs.Becomes.{Becomes}

-- with the pages as they then are
unfoldable pub rooted_of : Result (Option ℕ) Refusal → List Page → climb.Rooted
rooted_of (Ok None) ps = climb.stays ps
rooted_of (Ok (Some n)) ps = climb.moves n ps
rooted_of (Err r) ps = climb.lacks

-- the bytes of `b` become those of `b'` by what the page rules make of the root, `x`; and what is refused is refused since they need a page
-- and none is free
abbrev pub Roots : (l : Limits) (b b' : List ℕ) (x : climb.Rooted) (r : Result (Option ℕ) Refusal) → Type 0
Roots l b b' x r = (rooted_of r (pages_of l b') ≡ x) × Becomes l b b' (pages_of l b') × IfErr r (λ e. e ≡ NoPageFree)
