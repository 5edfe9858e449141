-- One page's work: what its values stand for, and the cases.
use Rattle.model.specs.declared.refusal.Refusal.TheVariants.{NoPageFree}
use Rattle.std.specs.Prelude.{ℕ, ◌+◌, ◌/◌, ◌≡◌, List, set, take, drop, Option, None, Some, Result, Ok, Err}
use Rattle.model.specs.declared.Limits.{Limits}
use Rattle.model.specs.declared.refusal.Refusal.{Refusal}
use Rattle.model.specs.Page.{Page, filled}
use Rattle.model.specs.Rules as rules
use Rattle.edit.specs.declared.Change.{Change}
use Rattle.edit.specs.Change.{change_of}
use Rattle.gather.specs.Gather.{pairs_in}
use Rattle.gather.specs.Kept.{Fits}
use Rattle.parts.specs.Kept.{pages_of}
use Rattle.parts.specs.Becomes.{Becomes}
use Rattle.group.specs.declared.Group.{Group}
use Rattle.group.specs.declared.Numbers.{Numbers}
use Rattle.group.specs.Group.{group_of, routers_now}

-- with the pages as they then are
unfoldable pub worked_of : Result (Option Change) Refusal → List Page → rules.Worked
worked_of (Ok None) ps = rules.settled ps
worked_of (Ok (Some c)) ps = rules.upward (change_of c) ps
worked_of (Err r) ps = rules.lacking

-- the change that goes up fits a page's entries; and what is refused is refused since the rules need a page and none is free
abbrev pub UpFits : Result (Option Change) Refusal → Type 0
UpFits (Ok None) = Unit {0}
UpFits (Ok (Some c)) = Fits c
UpFits (Err r) = r ≡ NoPageFree

-- the bytes of `b` become those of `b'` by what the page rules make of the pages, `x`, and what goes up fits
abbrev pub Works : (l : Limits) (b b' : List ℕ) (x : rules.Worked) (r : Result (Option Change) Refusal) → Type 0
Works l b b' x r = (worked_of r (pages_of l b') ≡ x) × Becomes l b b' (pages_of l b') × UpFits r

-- the first of the pairs fill page `to`, the others page `next`
abbrev pub filled_two : (w level : ℕ) (ps : List Page) (g : Group) (to next : ℕ) → List Page
filled_two w level ps g to next =
    let half = (g.all.n + 1) / 2 in
    set (set ps to (filled w level (take half (pairs_in g.all)))) next (filled w level (drop half (pairs_in g.all)))

-- the group is rebuilt into the pages u
abbrev pub Rebuilds : (l : Limits) (b b' : List ℕ) (w level : ℕ) (g : Group) (u : Numbers) → Type 0
Rebuilds l b b' w level g u =
    (rules.rebuild l.least w level (pages_of l b) (group_of g) ≡ rules.rebuilt (pages_of l b') (routers_now l g u.first u.second))
    × Becomes l b b' (pages_of l b')
