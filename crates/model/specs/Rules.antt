-- "The page rules for an update": the work of one level. The arguments are least, the edition's 4 (Limits), and w, the open version.
-- Assumes nothing.
use Rattle.std.specs.Prelude.{ℕ, ◌+◌, ◌*◌, ◌/◌, Bool, true, false, ◌&&◌, not, List, [], ◌∷◌, ◌++◌, map, leb, ltb, eqb, length, set, take, drop}
use Rattle.std.proofs.Math.Option.{Option, none, some}
use Rattle.model.specs.Basic.{those, any}
use Rattle.model.specs.declared.Pair.{Pair}
use Rattle.model.specs.Entry.{pair}
use Rattle.model.specs.Page.{Page, filled, pairs_at, Change, wanted, changed, active, gone}
use Rattle.model.specs.Store.{page, free_ones}
use Rattle.model.specs.Walk.{Around}

-- The pages of one level that are rebuilt together, by key: their routers, and the pairs gathered from them.
pub record Group : Type 0 where
  pub routers : List Pair
  pub pairs : List Pair

-- "add the live entries of its neighbour under the same parent: the right one, else the left"
unfoldable pub with_neighbour : ℕ → List Page → Around → List Pair → Option Pair → Option Pair → Group
with_neighbour w ps a want l (some r) = record { routers = a.own ∷ r ∷ []; pairs = want ++ pairs_at w (page ps r.value) }
with_neighbour w ps a want (some l) none = record { routers = l ∷ a.own ∷ []; pairs = pairs_at w (page ps l.value) ++ want }
with_neighbour w ps a want none none = record { routers = a.own ∷ []; pairs = want }

-- "Gather the wanted list. If the page isn't the root and the list has under 8, add .." The test: has it under 8?
unfoldable pub gather_by : Bool → ℕ → List Page → Around → List Pair → Group
gather_by true w ps a want = with_neighbour w ps a want a.left a.right
gather_by false w ps a want = record { routers = a.own ∷ []; pairs = want }

-- "Up to 16 gathered entries fill one page; more fill two, the lower taking the odd one."
pub data Parts : Type 0 where
  one : List Pair → Parts
  two : List Pair → List Pair → Parts

unfoldable pub parts_by : Bool → List Pair → Parts
parts_by true xs = one xs
parts_by false xs = two (take ((length xs + 1) / 2) xs) (drop ((length xs + 1) / 2) xs)

unfoldable pub parts : ℕ → List Pair → Parts
parts least xs = parts_by (leb (length xs) (4 * least)) xs

-- "The pages used are the active ones among those gathered, left first, then the lowest free pages"
unfoldable pub usable : ℕ → List Page → List Pair → List ℕ
usable w ps rs = those (λ (n : ℕ). active w (page ps n)) (map (λ (r : Pair). r.value) rs) ++ free_ones ps

-- "An active page left over is freed and zeroed. Inactive pages gathered are killed": all of them go, and the pages used are written after.
abbrev pub retire : ℕ → List Page → List Pair → List Page
retire w ps [] = ps
retire w ps (r ∷ rs) = retire w (set ps r.value (gone w (page ps r.value))) rs

-- The pages after a group is rebuilt and the routers that lead to those now used, or that there are too few free pages.
pub data Rebuilt : Type 0 where
  rebuilt : List Page → List Pair → Rebuilt
  short : Rebuilt

abbrev pub low_key : List Pair → ℕ
low_key [] = 0
low_key (x ∷ xs) = x.key

-- "the lower half goes to the first"; "The first new low key is the lowest old one; the second is the second page's first key."
unfoldable pub rebuild_with : ℕ → ℕ → List Page → List Pair → Parts → List ℕ → Rebuilt
rebuild_with w level ps rs (one x) [] = short
rebuild_with w level ps rs (one x) (n ∷ ns) = rebuilt (set (retire w ps rs) n (filled w level x)) (pair (low_key rs) n ∷ [])
rebuild_with w level ps rs (two x y) [] = short
rebuild_with w level ps rs (two x y) (n ∷ []) = short
rebuild_with w level ps rs (two x y) (n ∷ m ∷ ns) =
    rebuilt (set (set (retire w ps rs) n (filled w level x)) m (filled w level y)) (pair (low_key rs) n ∷ pair (low_key y) m ∷ [])

unfoldable pub rebuild : (least w level : ℕ) (ps : List Page) (g : Group) → Rebuilt
rebuild least w level ps g = rebuild_with w level ps g.routers (parts least g.pairs) (usable w ps g.routers)

-- "The parent's wanted list drops the old routers and takes one for each page now used; a router with the same low key and page stays
-- untouched."
abbrev pub same_pair : Pair → Pair → Bool
same_pair x y = eqb x.key y.key && eqb x.value y.value

abbrev pub without : List Pair → List Pair → List Pair
without xs ys = those (λ (x : Pair). not (any (same_pair x) ys)) xs

unfoldable pub exchange : List Pair → List Pair → Change
exchange olds news = record { drop = map (λ (x : Pair). x.key) (without olds news); take = without news olds }

-- "takes one for each page now used": routers to pages n and m, or to n alone.
-- "The first new low key is the lowest old one; the second is the second page's first key."
unfoldable pub routers_to : List Pair → Parts → ℕ → ℕ → List Pair
routers_to rs (one x) n m = pair (low_key rs) n ∷ []
routers_to rs (two x y) n m = pair (low_key rs) n ∷ pair (low_key y) m ∷ []

-- What comes of a page that is not the root: it took the change in place, or its parent has a change to take, or a page is lacking.
pub data Worked : Type 0 where
  settled : List Page → Worked
  upward : Change → List Page → Worked
  lacking : Worked

unfoldable pub hand_up : List Pair → Rebuilt → Worked
hand_up olds (rebuilt ps news) = upward (exchange olds news) ps
hand_up olds short = lacking

-- "A page takes its change in place if it then has at most 20 entries, dead ones counted, and is the root or has at least 4 live."
abbrev pub roomy : ℕ → ℕ → Change → Page → Bool
roomy least w c p = leb (length (changed w c p).entries) (5 * least)

-- else the group is rebuilt, and its parent has the routers to exchange
unfoldable pub regroup : (least w level : ℕ) (ps : List Page) (g : Group) → Worked
regroup least w level ps g = hand_up g.routers (rebuild least w level ps g)

unfoldable pub work_by : ℕ → Bool → ℕ → List Page → Around → Change → Page → Worked
work_by least true w ps a c p = settled (set ps a.own.value (changed w c p))
work_by least false w ps a c p = regroup least w p.level ps (gather_by (ltb (length (wanted w c p)) (2 * least)) w ps a (wanted w c p))

unfoldable pub work : ℕ → ℕ → List Page → Around → Change → Worked
work least w ps a c =
    let p = page ps a.own.value in
    work_by least (roomy least w c p && leb least (length (wanted w c p))) w ps a c p
