-- What an update lacks, said of the page rules themselves: "the rules need a page and none is free" (12), "the rules need a 257th slot"
-- (13).
-- That the numbers are given exactly then stands in proofs/needs/Lacking; that a count foresees it, in crate outlook.
-- Assumes nothing.
use Rattle.std.specs.Prelude.{ℕ, ◌+◌, ◌*◌, ◌<◌, Bool, false, ◌&&◌, ◌||◌, ◌↔◌, ◌≡◌, List, [], ◌∷◌, map, leb, ltb, eqb, length}
use Rattle.model.specs.Basic.{those, pick, any}
use Rattle.model.specs.declared.Pair.{Pair}
use Rattle.model.specs.declared.Slot.{Slot}
use Rattle.model.specs.Entry.{pair}
use Rattle.model.specs.Page.{Page, Change, wanted, active}
use Rattle.model.specs.Store.{Store, page, free_ones, next}
use Rattle.model.specs.Walk.{Around, root_at, way, lookup}
use Rattle.model.specs.Rules.{Group, gather_by, rebuilt, rebuild, roomy, upward, work}
use Rattle.model.specs.Climb.{moves, climb, refused}
use Rattle.model.specs.Calls.{is_some, first_of, insert_tests, delete_tests, insert, delete}
use Rattle.model.specs.Layout.{decode}
use Rattle.model.specs.Judged.{judged}
use Rattle.model.specs.Lent.{insert_lent, delete_lent}

-- ---- a page

-- "Up to 16 gathered entries fill one page; more fill two"
abbrev pub fills : ℕ → List Pair → ℕ
fills least xs = pick (leb (length xs) (4 * least)) 1 2

-- "the active ones among those gathered, left first"
abbrev pub actives : ℕ → List Page → List Pair → List ℕ
actives w ps rs = those (λ (n : ℕ). active w (page ps n)) (map (λ (r : Pair). r.value) rs)

-- A group needs a page and none is free: its gathered entries fill more pages than "the active ones among those gathered" and the free ones
-- are.
abbrev pub Short : ℕ → ℕ → List Page → Group → Type 0
Short least w ps g = length (actives w ps g.routers) + length (free_ones ps) < fills least g.pairs

-- "A page takes its change in place if it then has at most 20 entries, dead ones counted, and [..] has at least 4 live."
abbrev pub takes_in_place : ℕ → ℕ → Change → Page → Bool
takes_in_place least w c p = roomy least w c p && leb least (length (wanted w c p))

-- "If the page isn't the root and the list has under 8, add the live entries of its neighbour"
abbrev pub group_at : ℕ → ℕ → List Page → Around → Change → Group
group_at least w ps a c = let want = wanted w c (page ps a.own.value) in gather_by (ltb (length want) (2 * least)) w ps a want

-- "First of all, an index root whose wanted list is one router goes"
abbrev pub goes : ℕ → Change → Page → Bool
goes w c p = leb 2 p.level && eqb (length (wanted w c p)) 1

abbrev pub root_group : ℕ → List Page → ℕ → Change → Group
root_group w ps r c = record { routers = pair 0 r ∷ []; pairs = wanted w c (page ps r) }

-- Somewhere from the leaf up, with the pages as they stand when the work has come there, a page is needed and none is free.
pub data PageNeeded (least w r : ℕ) : List Around → Change → List Page → Type 0 where
  -- for a page that is not the root
  here : {a : Around} {up : List Around} {c : Change} {ps : List Page} → takes_in_place least w c (page ps a.own.value) ≡ false
      → Short least w ps (group_at least w ps a c) → PageNeeded least w r (a ∷ up) c ps
  -- further up, once this page's work is done
  above : {a : Around} {up : List Around} {c c' : Change} {ps ps' : List Page} → work least w ps a c ≡ upward c' ps'
      → PageNeeded least w r up c' ps' → PageNeeded least w r (a ∷ up) c ps
  -- for the root
  root : {c : Change} {ps : List Page} → goes w c (page ps r) ≡ false → roomy least w c (page ps r) ≡ false
      → Short least w ps (root_group w ps r c) → PageNeeded least w r [] c ps
  -- "A root that becomes two pages gets a new root one level up, taken after them"
  top : {c : Change} {ps qs : List Page} {x y : Pair} → goes w c (page ps r) ≡ false → roomy least w c (page ps r) ≡ false
      → rebuild least w (page ps r).level ps (root_group w ps r c) ≡ rebuilt qs (x ∷ y ∷ []) → free_ones qs ≡ []
      → PageNeeded least w r [] c ps

-- of the update for a key
abbrev pub NeedsPage : ℕ → Store → ℕ → Change → Type 0
NeedsPage least s k c = PageNeeded least (next s) (root_at s.slots (next s)) (way s (next s) k) c s.pages

-- ---- a slot

-- whether the open version has its slot
abbrev pub has_slot : Store → Bool
has_slot s = any (λ (x : Slot). eqb x.version (next s)) s.slots

-- "A new root takes the directory slot of the open version, or replaces it there."
abbrev pub slot_left : ℕ → Store → Bool
slot_left least s = has_slot s || ltb (length s.slots) (64 * least)

-- "A new root takes the directory slot of the open version": there is a new root, that version has no slot, and every slot is taken.
pub record NeedsSlot (least : ℕ) (s : Store) (k : ℕ) (c : Change) : Type 0 where
  pub root : ℕ
  pub pages : List Page
  pub new : climb least (next s) (root_at s.slots (next s)) (way s (next s) k) c s.pages ≡ moves root pages
  pub none : has_slot s ≡ false
  pub full : length s.slots ≡ 64 * least

-- ---- calls: "Of several, the smallest" number is given

abbrev pub inserting : ℕ → ℕ → Change
inserting k x = record { drop = []; take = pair k x ∷ [] }

abbrev pub deleting : ℕ → Change
deleting k = record { drop = k ∷ []; take = [] }

-- none of insert's tests holds: 5, 7 and 10
abbrev pub InsertTried : Store → ℕ → Type 0
InsertTried s k = first_of (insert_tests k s.opened (is_some (lookup s k (next s)))) ≡ 0

-- none of delete's: 5, 7 and 11
abbrev pub DeleteTried : Store → ℕ → Type 0
DeleteTried s k = first_of (delete_tests k s.opened (is_some (lookup s k (next s)))) ≡ 0

-- Of a store: insert and delete give 12 and 13 exactly when their update lacks a page, or a slot.
pub record Lacks (least : ℕ) (s : Store) : Type 0 where
  pub insert-page : (k x : ℕ) → insert least s k x ≡ refused 12 ↔ (InsertTried s k × NeedsPage least s k (inserting k x))
  pub insert-slot : (k x : ℕ) → insert least s k x ≡ refused 13 ↔ (InsertTried s k × NeedsSlot least s k (inserting k x))
  pub delete-page : (k : ℕ) → delete least s k ≡ refused 12 ↔ (DeleteTried s k × NeedsPage least s k (deleting k))
  pub delete-slot : (k : ℕ) → delete least s k ≡ refused 13 ↔ (DeleteTried s k × NeedsSlot least s k (deleting k))

-- Of any bytes lent, where 1 to 4 are smaller: exactly when they are accepted and the store that they hold is so.
pub record LacksLent (least : ℕ) (b : List ℕ) : Type 0 where
  pub insert-page : (k x : ℕ) → (insert_lent least b k x).number ≡ 12
      ↔ (((judged least b).number ≡ 0) × (InsertTried (decode least b) k × NeedsPage least (decode least b) k (inserting k x)))
  pub insert-slot : (k x : ℕ) → (insert_lent least b k x).number ≡ 13
      ↔ (((judged least b).number ≡ 0) × (InsertTried (decode least b) k × NeedsSlot least (decode least b) k (inserting k x)))
  pub delete-page : (k : ℕ) → (delete_lent least b k).number ≡ 12
      ↔ (((judged least b).number ≡ 0) × (DeleteTried (decode least b) k × NeedsPage least (decode least b) k (deleting k)))
  pub delete-slot : (k : ℕ) → (delete_lent least b k).number ≡ 13
      ↔ (((judged least b).number ≡ 0) × (DeleteTried (decode least b) k × NeedsSlot least (decode least b) k (deleting k)))
