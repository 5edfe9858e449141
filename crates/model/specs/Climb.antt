-- "Work goes from the leaf up": one change, from a leaf to the root and its slot. `least` is the edition's 4 (Limits).
-- Assumes nothing.
use Rattle.std.specs.Prelude.{ℕ, suc, ◌*◌, Bool, true, false, not, List, [], ◌∷◌, ◌++◌, leb, eqb, length, set}
use Rattle.model.specs.Basic.{those}
use Rattle.model.specs.declared.Pair.{Pair}
use Rattle.model.specs.declared.Slot.{Slot}
use Rattle.model.specs.Entry.{pair}
use Rattle.model.specs.Page.{Page, filled, Change, wanted, changed, gone}
use Rattle.model.specs.Store.{Store, page, free_ones, next}
use Rattle.model.specs.Walk.{root_at, Around, way}
use Rattle.model.specs.Rules.{Rebuilt, rebuilt, short, rebuild, Worked, settled, upward, lacking, roomy, work}

-- What comes of the root: it stays the root, or another page becomes it, or a page is lacking.
pub data Rooted : Type 0 where
  stays : List Page → Rooted
  moves : ℕ → List Page → Rooted
  lacks : Rooted

-- "A root that becomes two pages gets a new root one level up, taken after them, with low keys 0 and the second's."
unfoldable pub topped : ℕ → ℕ → List Page → List Pair → List ℕ → Rooted
topped w level ps news [] = lacks
topped w level ps news (n ∷ ns) = moves n (set ps n (filled w (suc level) news))

unfoldable pub new_root : ℕ → ℕ → Rebuilt → Rooted
new_root w level short = lacks
new_root w level (rebuilt ps []) = lacks
new_root w level (rebuilt ps (x ∷ [])) = moves x.value ps
new_root w level (rebuilt ps (x ∷ y ∷ zs)) = topped w level ps (x ∷ y ∷ zs) (free_ones ps)

-- the root takes its change in place "if it then has at most 20 entries", or is rebuilt alone
unfoldable pub root_stay : ℕ → Bool → ℕ → List Page → ℕ → Change → Page → Rooted
root_stay least true w ps r c p = stays (set ps r (changed w c p))
root_stay least false w ps r c p =
    new_root w p.level (rebuild least w p.level ps (record { routers = pair 0 r ∷ []; pairs = wanted w c p }))

-- "First of all, an index root whose wanted list is one router goes: that child becomes the root."
unfoldable pub root_go : ℕ → Bool → ℕ → List Page → ℕ → Change → Page → List Pair → Rooted
root_go least true w ps r c p (x ∷ []) = moves x.value (set ps r (gone w p))
root_go least true w ps r c p [] = root_stay least (roomy least w c p) w ps r c p
root_go least true w ps r c p (x ∷ y ∷ zs) = root_stay least (roomy least w c p) w ps r c p
root_go least false w ps r c p want = root_stay least (roomy least w c p) w ps r c p

unfoldable pub work_root : ℕ → ℕ → List Page → ℕ → Change → Rooted
work_root least w ps r c = let p = page ps r in root_go least (leb 2 p.level) w ps r c p (wanted w c p)

-- "Work goes from the leaf up."
abbrev pub go_on : Worked → (Change → List Page → Rooted) → Rooted
go_on (settled ps) k = stays ps
go_on (upward c ps) k = k c ps
go_on lacking k = lacks

unfoldable pub climb : (least w r : ℕ) (up : List Around) (c : Change) (ps : List Page) → Rooted
climb least w r [] c ps = work_root least w ps r c
climb least w r (a ∷ up) c ps = go_on (work least w ps a c) (λ (c' : Change) (ps' : List Page). climb least w r up c' ps')

-- "A new root takes the directory slot of the open version, or replaces it there."
unfoldable pub put_slot : ℕ → ℕ → List Slot → List Slot
put_slot w n xs = those (λ (x : Slot). not (eqb x.version w)) xs ++ (record { version = w; root = n } ∷ [])

-- what a call gives: the store after it, or a number
pub data Result : Type 0 where
  done : Store → Result
  refused : ℕ → Result

-- 12 "the rules need a page and none is free", 13 "the rules need a 257th slot"
unfoldable pub slotted : Bool → Store → List Slot → List Page → Result
slotted true s xs ps = done (record { current = s.current; opened = s.opened; oldest = s.oldest; slots = xs; pages = ps })
slotted false s xs ps = refused 13

unfoldable pub rooted : ℕ → Store → Rooted → Result
rooted least s (stays ps) = done (record { current = s.current; opened = s.opened; oldest = s.oldest; slots = s.slots; pages = ps })
rooted least s (moves n ps) = let xs = put_slot (next s) n s.slots in slotted (leb (length xs) (64 * least)) s xs ps
rooted least s lacks = refused 12

-- one change at the leaf for a key, at the open version
unfoldable pub update : ℕ → Store → ℕ → Change → Result
update least s k c = rooted least s (climb least (next s) (root_at s.slots (next s)) (way s (next s) k) c s.pages)
