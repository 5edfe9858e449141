-- "a gathered page holds 7 to 16 (an index root from 2, a leaf root from 1)": how many entries the pages get that an update fills, over
-- least, the edition's 4 (Limits). That every update of a sound store is so stands in proofs/Gathers.
-- Assumes nothing.
use Rattle.std.specs.Prelude.{ℕ, ◌*◌, ◌-◌, ◌≤◌, ◌<◌, false, ◌≡◌, List, [], ◌∷◌, leb, length}
use Rattle.std.proofs.Math.Option.{none}
use Rattle.model.specs.Basic.{pick}
use Rattle.model.specs.Page.{Page, Change, wanted}
use Rattle.model.specs.Store.{Store, page, next}
use Rattle.model.specs.Walk.{Around, root_at, way, lookup, key_limit}
use Rattle.model.specs.Rules.{Parts, one, two, parts, roomy, upward, work}
use Rattle.model.specs.Needs.{takes_in_place, group_at, goes, inserting, deleting}

pub record Between (low high n : ℕ) : Type 0 where
  pub from : low ≤ n
  pub upto : n ≤ high

-- one page of `low` to 16, or two of 8 to 16 each
abbrev pub Filled : ℕ → ℕ → Parts → Type 0
Filled least low (one x) = Between low (4 * least) (length x)
Filled least low (two x y) = Between (2 * least) (4 * least) (length x) × Between (2 * least) (4 * least) (length y)

-- "(an index root from 2, a leaf root from 1)", by the root's level
abbrev pub root_low : ℕ → ℕ
root_low level = pick (leb 2 level) 2 1

-- From the leaf up: where a page does not take its change in place, what is gathered for it fills pages so; and so further up.
abbrev pub Gathers : (least w r : ℕ) (up : List Around) (c : Change) (ps : List Page) → Type 0
Gathers least w r [] c ps =
    goes w c (page ps r) ≡ false → roomy least w c (page ps r) ≡ false
    → Filled least (root_low (page ps r).level) (parts least (wanted w c (page ps r)))
Gathers least w r (a ∷ up) c ps =
    (takes_in_place least w c (page ps a.own.value) ≡ false → Filled least (2 * least - 1) (parts least (group_at least w ps a c).pairs))
    × ((c' : Change) (ps' : List Page) → work least w ps a c ≡ upward c' ps' → Gathers least w r up c' ps')

-- Of a store with an update open: an insert of a key that is not alive, bench keys too, and a delete.
pub record GathersWell (least : ℕ) (s : Store) : Type 0 where
  pub insert : (k x : ℕ) → k < key_limit → lookup s k (next s) ≡ none → x < 4294967296
      → Gathers least (next s) (root_at s.slots (next s)) (way s (next s) k) (inserting k x) s.pages
  pub delete : (k : ℕ) → k < key_limit → Gathers least (next s) (root_at s.slots (next s)) (way s (next s) k) (deleting k) s.pages
