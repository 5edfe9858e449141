-- The plan of an update: the number that it will come to, known before the first write.
-- It reads the pages as they stand before the update, from the leaf up, and carries two things: the change that the next page has to
-- take, and how many pages are free by then. Which free page is taken makes no difference higher up: what a page does there follows
-- from its routers' low keys and from how many there are. So a count does, where a map of the free pages would do too, and in a router
-- to a page yet to be taken stands 0, the number of no router.
-- That the plan foresees what `update` runs into: `plan-foresees` in proofs/laws/PlanSound.
-- Assumes nothing.
use Rattle.std.specs.Prelude.{ℕ, ◌+◌, ◌*◌, ◌-◌, Bool, true, false, List, [], ◌∷◌, leb, length, get_or}
use Rattle.model.specs.Basic.{pick}
use Rattle.model.specs.declared.Pair.{Pair}
use Rattle.model.specs.Entry.{pair}
use Rattle.model.specs.Page.{Page, Change, wanted}
use Rattle.model.specs.Store.{Store, page, free_ones, next}
use Rattle.model.specs.Walk.{Around, root_at, way}
use Rattle.model.specs.Rules.{Group, parts, routers_to, exchange, roomy}
use Rattle.model.specs.Climb.{Rooted, stays, moves, lacks, Result, done, refused}
use Rattle.model.specs.Needs.{fills, actives, takes_in_place, group_at, goes, slot_left}

-- a page yet to be taken
abbrev pub untaken : ℕ
untaken = 0

-- the parent's change: the pages now used are the active ones, left first, then pages yet to be taken
unfoldable pub parent_change : ℕ → Group → List ℕ → Change
parent_change least g ns = exchange g.routers (routers_to g.routers (parts least g.pairs) (get_or ns 0 untaken) (get_or ns 1 untaken))

-- What comes of a page that is not the root: it takes its change in place; its parent has a change to take, and so many pages are free;
-- there is no page.
pub data Planned : Type 0 where
  settles : Planned
  rises : Change → ℕ → Planned
  fails : Planned

unfoldable pub spent : Bool → Change → ℕ → Planned
spent true c left = rises c left
spent false c left = fails

-- "An active page left over is freed"; a page needed beyond the active ones is taken from the free ones
unfoldable pub plan_group : ℕ → ℕ → List Page → Group → ℕ → Planned
plan_group least w ps g left =
    let ns = actives w ps g.routers in
    let need = fills least g.pairs in
    spent (leb need (length ns + left)) (parent_change least g ns) (length ns + left - need)

unfoldable pub plan_by : ℕ → Bool → ℕ → List Page → Around → Change → ℕ → Planned
plan_by least true w ps a c left = settles
plan_by least false w ps a c left = plan_group least w ps (group_at least w ps a c) left

unfoldable pub plan_work : ℕ → ℕ → List Page → Around → Change → ℕ → Planned
plan_work least w ps a c left = plan_by least (takes_in_place least w c (page ps a.own.value)) w ps a c left

-- What comes of the root: it stays, another page is the root, there is no page.
pub data Outlook : Type 0 where
  keeps_root : Outlook
  moves_root : Outlook
  lacks_page : Outlook

-- does it go, has it room, do the pages suffice?
unfoldable pub root_by : Bool → Bool → Bool → Outlook
root_by true b e = moves_root
root_by false true e = keeps_root
root_by false false true = moves_root
root_by false false false = lacks_page

-- "A root that becomes two pages gets a new root one level up, taken after them": a third page
abbrev pub root_fills : ℕ → List Pair → ℕ
root_fills least xs = pick (leb (length xs) (4 * least)) 1 3

unfoldable pub plan_root : ℕ → ℕ → List Page → ℕ → Change → ℕ → Outlook
plan_root least w ps r c left =
    let p = page ps r in
    root_by (goes w c p) (roomy least w c p) (leb (root_fills least (wanted w c p)) (length (actives w ps (pair 0 r ∷ [])) + left))

-- "Work goes from the leaf up."
abbrev pub plan_on : Planned → (Change → ℕ → Outlook) → Outlook
plan_on settles k = keeps_root
plan_on (rises c left) k = k c left
plan_on fails k = lacks_page

unfoldable pub plan_up : ℕ → ℕ → List Page → ℕ → List Around → Change → ℕ → Outlook
plan_up least w ps r [] c left = plan_root least w ps r c left
plan_up least w ps r (a ∷ up) c left = plan_on (plan_work least w ps a c left) (λ (c' : Change) (left' : ℕ). plan_up least w ps r up c' left')

-- 12 "the rules need a page and none is free", 13 "the rules need a 257th slot", else 0
unfoldable pub outlook_number : Bool → Outlook → ℕ
outlook_number b keeps_root = 0
outlook_number b moves_root = pick b 0 13
outlook_number b lacks_page = 12

unfoldable pub outlook : ℕ → Store → ℕ → Change → Outlook
outlook least s k c = plan_up least (next s) s.pages (root_at s.slots (next s)) (way s (next s) k) c (length (free_ones s.pages))

unfoldable pub plan : ℕ → Store → ℕ → Change → ℕ
plan least s k c = outlook_number (slot_left least s) (outlook least s k c)

-- ---- what the plan is held against

abbrev pub outlook_of : Rooted → Outlook
outlook_of (stays ps) = keeps_root
outlook_of (moves n ps) = moves_root
outlook_of lacks = lacks_page

abbrev pub number_of : Result → ℕ
number_of (done t) = 0
number_of (refused n) = n
