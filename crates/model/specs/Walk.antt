-- What a store shows at a version: its root and settings, what a lookup and a range find there, and the pages that each visits.
-- Assumes nothing.
use Rattle.std.specs.Prelude.{ℕ, zero, suc, pred, Bool, true, false, ◌&&◌, List, [], ◌∷◌, ◌++◌, leb, eqb}
use Rattle.std.proofs.Math.Option.{Option, none, some}
use Rattle.model.specs.Basic.{those, pick, flat_map}
use Rattle.model.specs.declared.Pair.{Pair}
use Rattle.model.specs.Entry.{pair}
use Rattle.model.specs.Page.{Page, pairs_at}
use Rattle.model.specs.declared.Slot.{Slot}
use Rattle.model.specs.Store.{Store, page}

-- "Keys are 0 to 16,777,215"
abbrev pub key_limit : ℕ
key_limit = 16777216

-- "The root of v is the last slot at or below v."
abbrev pub root_from : ℕ → List Slot → ℕ → ℕ
root_from r [] v = r
root_from r (x ∷ xs) v = root_from (pick (leb x.version v) x.root r) xs v

abbrev pub root_at : List Slot → ℕ → ℕ
root_at xs v = root_from 0 xs v

-- the settings below page n, which stands `up` levels above the leaves
abbrev pub below : ℕ → List Page → ℕ → ℕ → List Pair
below zero ps v n = pairs_at v (page ps n)
below (suc up) ps v n = flat_map (λ (r : Pair). below up ps v r.value) (pairs_at v (page ps n))

-- how far a page stands above the leaves
abbrev pub height_of : List Page → ℕ → ℕ
height_of ps n = pred (page ps n).level

-- the settings of a version, by key: all that its walk shows
abbrev pub settings : Store → ℕ → List Pair
settings s v = below (height_of s.pages (root_at s.slots v)) s.pages v (root_at s.slots v)

-- "A range includes both ends"
abbrev pub between : ℕ → ℕ → List Pair → List Pair
between lo hi xs = those (λ (x : Pair). leb lo x.key && leb x.key hi) xs

-- the place of a key among routers: the last one at or below it, and its neighbours
pub record Around : Type 0 where
  pub left : Option Pair
  pub own : Pair
  pub right : Option Pair

abbrev pub around_from : ℕ → Option Pair → Pair → List Pair → Around
around_from k l x [] = record { left = l; own = x; right = none }
around_from k l x (y ∷ ys) =
    elim (leb y.key k) [ true ↦ around_from k (some x) y ys | false ↦ record { left = l; own = x; right = some y } ]

abbrev pub around : ℕ → List Pair → Around
around k [] = record { left = none; own = pair 0 0; right = none }
around k (x ∷ xs) = around_from k none x xs

-- the way down from page n to the leaf for a key: the leaf's place first, the root's own not among them
abbrev pub way_down : (up : ℕ) (ps : List Page) (v k n : ℕ) (acc : List Around) → List Around
way_down zero ps v k n acc = acc
way_down (suc up) ps v k n acc =
    let a = around k (pairs_at v (page ps n)) in
    way_down up ps v k a.own.value (a ∷ acc)

abbrev pub way : Store → ℕ → ℕ → List Around
way s v k = let r = root_at s.slots v in way_down (height_of s.pages r) s.pages v k r []

-- the leaf at the end of a way that begins at root r
abbrev pub leaf_of : ℕ → List Around → ℕ
leaf_of r [] = r
leaf_of r (a ∷ up) = a.own.value

-- the value of a key
abbrev pub find : ℕ → List Pair → Option ℕ
find k [] = none
find k (x ∷ xs) = pick (eqb x.key k) (some x.value) (find k xs)

-- what a lookup finds
abbrev pub lookup : Store → ℕ → ℕ → Option ℕ
lookup s k v = find k (pairs_at v (page s.pages (leaf_of (root_at s.slots v) (way s v k))))

-- the pages that a lookup visits, from the root down
abbrev pub path_down : (up : ℕ) (ps : List Page) (v k n : ℕ) → List ℕ
path_down zero ps v k n = n ∷ []
path_down (suc up) ps v k n = n ∷ path_down up ps v k (around k (pairs_at v (page ps n))).own.value

abbrev pub lookup_visits : Store → ℕ → ℕ → List ℕ
lookup_visits s k v = let r = root_at s.slots v in path_down (height_of s.pages r) s.pages v k r

-- The routers that a range follows: the last one at or below the key `at`, and every later one at or below the high key. Each is
-- given as the key that its child must cover, which is `at` for the first and its own low key for a later one, and the child.
abbrev pub follow_from : ℕ → ℕ → Pair → List Pair → List Pair
follow_from at hi x [] = pair at x.value ∷ []
follow_from at hi x (y ∷ ys) =
    elim (leb y.key at) [ true ↦ follow_from at hi y ys | false ↦ pair at x.value ∷ those (λ (r : Pair). leb r.key hi) (y ∷ ys) ]

abbrev pub followed : ℕ → ℕ → List Pair → List Pair
followed at hi [] = []
followed at hi (x ∷ xs) = follow_from at hi x xs

abbrev pub range_below : (up : ℕ) (ps : List Page) (v lo hi at n : ℕ) → List Pair
range_below zero ps v lo hi at n = between lo hi (pairs_at v (page ps n))
range_below (suc up) ps v lo hi at n =
    flat_map (λ (r : Pair). range_below up ps v lo hi r.key r.value) (followed at hi (pairs_at v (page ps n)))

-- the settings from lo to hi that a range finds
abbrev pub range_of : (s : Store) (lo hi v : ℕ) → List Pair
range_of s lo hi v = let r = root_at s.slots v in range_below (height_of s.pages r) s.pages v lo hi lo r

-- and the pages that it visits
abbrev pub range_path : (up : ℕ) (ps : List Page) (v hi at n : ℕ) → List ℕ
range_path zero ps v hi at n = n ∷ []
range_path (suc up) ps v hi at n =
    n ∷ flat_map (λ (r : Pair). range_path up ps v hi r.key r.value) (followed at hi (pairs_at v (page ps n)))

abbrev pub range_visits : (s : Store) (lo hi v : ℕ) → List ℕ
range_visits s lo hi v = let r = root_at s.slots v in range_path (height_of s.pages r) s.pages v hi lo r

-- A page that a walk over all entries alive then reaches: its number, how far it stands above the leaves, whether it is the root, the
-- keys that it may hold (from low up to, not including, high), and its pairs alive then.
pub record Seen : Type 0 where
  pub number : ℕ
  pub up : ℕ
  pub is_root : Bool
  pub low : ℕ
  pub high : ℕ
  pub pairs : List Pair

-- what a walk makes of each router, given its low key, the next one's (behind the last the page's high key), and its page
abbrev pub spread {ℓ} : {A : Type ℓ} → (ℕ → ℕ → ℕ → List A) → List Pair → ℕ → List A
spread f [] high = []
spread f (x ∷ []) high = f x.key high x.value
spread f (x ∷ y ∷ zs) high = f x.key y.key x.value ++ spread f (y ∷ zs) high

-- "walk from its root over entries alive then"
abbrev pub seen_as : (up : ℕ) (ps : List Page) (v : ℕ) (b : Bool) (low high n : ℕ) → Seen
seen_as up ps v b low high n = record { number = n; up = up; is_root = b; low = low; high = high; pairs = pairs_at v (page ps n) }

-- the pages below page n
abbrev pub seen_under : (up : ℕ) (ps : List Page) (v high n : ℕ) → List Seen
seen_under zero ps v high n = []
seen_under (suc up) ps v high n =
    spread (λ (lo hi i : ℕ). seen_as up ps v false lo hi i ∷ seen_under up ps v hi i) (pairs_at v (page ps n)) high

abbrev pub seen_below : (up : ℕ) (ps : List Page) (v : ℕ) (b : Bool) (low high n : ℕ) → List Seen
seen_below up ps v b low high n = seen_as up ps v b low high n ∷ seen_under up ps v high n

abbrev pub seen : Store → ℕ → List Seen
seen s v = let r = root_at s.slots v in seen_below (height_of s.pages r) s.pages v true 0 key_limit r
