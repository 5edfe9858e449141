-- The tree below a page at version w, by recursion on the level: what a page holds and what it shows. Words of contracts inside the code,
-- as Inner: that a tree shows what the walk gives is proved in proofs/tree.
-- Assumes nothing.
use Rattle.std.specs.Prelude.{ℕ, zero, suc, ◌≤◌, ◌<◌, Bool, true, ◌≡◌, List, [], ◌∷◌, ◌++◌, ltb, length}
use Rattle.model.specs.Basic.{all, in_order}
use Rattle.model.specs.declared.Pair.{Pair}
use Rattle.model.specs.Entry.{within}
use Rattle.model.specs.Page.{Page, pairs_at}
use Rattle.model.specs.Store.{page}

-- settings with keys from lo up to, not including, hi
abbrev pub in_range : ℕ → ℕ → List Pair → Bool
in_range lo hi xs = all (λ (x : Pair). within lo hi x.key) xs

-- What is said of a page by its low key, the next page's low key, its number and its settings.
abbrev pub Says : Type 1
Says = ℕ → ℕ → ℕ → List Pair → Type 0

-- Routers one after another, from lo up to hi: the first leads to what covers lo up to mid, the rest go on from there.
pub record Link (S : Says) (Rest : ℕ → List Pair → Type 0) (lo : ℕ) (r : Pair) (zs : List Pair) : Type 0 where
  pub mid : ℕ
  pub mine : List Pair
  pub others : List Pair
  pub low : r.key ≡ lo
  pub room : lo < mid
  pub here : S lo mid r.value mine
  pub rest : Rest mid others
  pub all_of : zs ≡ mine ++ others

pub record RowEnded (lo hi : ℕ) (zs : List Pair) : Type 0 where
  pub met : lo ≡ hi
  pub nothing : zs ≡ []

abbrev pub Row : Says → ℕ → List Pair → ℕ → List Pair → Type 0
Row S hi [] lo zs = RowEnded lo hi zs
Row S hi (r ∷ rs) lo zs = Link S (Row S hi rs) lo r zs

-- What is said of the pairs of a page, by its low key, the next page's low key and its settings.
abbrev pub Fills : Type 1
Fills = ℕ → ℕ → List Pair → List Pair → Type 0

-- the pairs of a leaf are its settings
pub record LeafHolds (lo hi : ℕ) (want zs : List Pair) : Type 0 where
  pub same : want ≡ zs
  pub keys : all (λ (x : Pair). within lo hi x.key) want ≡ true
  pub rising : in_order (λ (x y : Pair). ltb x.key y.key) want ≡ true

-- a page that is not the root, as rules 3, 5 and 6 have it where a walk reaches it
pub record Fair (least w : ℕ) (p : Page) : Type 0 where
  pub lives : within p.start p.end w ≡ true
  pub many : least ≤ length (pairs_at w p)

module _ (least w : ℕ) where
  -- a page that is not the root: its level, its pairs, and that it has one
  pub record OfPage (H : Fills) (l : ℕ) (ps : List Page) (lo hi n : ℕ) (xs : List Pair) : Type 0 where
    pub level : (page ps n).level ≡ suc l
    pub room : lo < hi
    pub first : Pair
    pub others : List Pair
    pub shown : pairs_at w (page ps n) ≡ first ∷ others
    pub first-low : lo ≤ first.key
    pub first-high : first.key < hi
    pub fair : Fair least w (page ps n)
    pub holds : H lo hi (pairs_at w (page ps n)) xs

  -- a page l levels above the leaves that holds `want` shows zs
  abbrev pub Holds : ℕ → List Page → Fills
  Holds zero ps lo hi want zs = LeafHolds lo hi want zs
  Holds (suc l) ps lo hi want zs = Row (OfPage (Holds l ps) l ps) hi want lo zs
