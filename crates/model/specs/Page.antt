-- Pages, and what a change does to one.
-- Assumes nothing.
use Rattle.std.specs.Prelude.{ℕ, Bool, true, false, ◌&&◌, not, List, [], ◌∷◌, map, eqb}
use Rattle.model.specs.Basic.{has, those}
use Rattle.model.specs.declared.Pair.{Pair}
use Rattle.model.specs.declared.Entry.{Entry}
use Rattle.model.specs.Entry.{alive, pair_of, live_at, born, enter, enter_pair, end_those}

-- level 0 is a free page, 1 a leaf, higher an index page
pub record Page : Type 0 where
  pub level : ℕ
  pub start : ℕ
  pub end : ℕ
  pub entries : List Entry

abbrev pub free : Page
free = record { level = 0; start = 0; end = 0; entries = [] }

abbrev pub is_free : Page → Bool
is_free p = eqb p.level 0

-- a page of version w that holds these pairs
abbrev pub filled : ℕ → ℕ → List Pair → Page
filled w level ps = record { level = level; start = w; end = alive; entries = map (born w) ps }

-- the pairs alive at v, by key
abbrev pub pairs_at : ℕ → Page → List Pair
pairs_at v p = map pair_of (those (live_at v) p.entries)

-- A change to a page: the keys whose live entries end, and the pairs that come in.
pub record Change : Type 0 where
  pub drop : List ℕ
  pub take : List Pair

-- pairs put into their places, in a list of pairs and in one of entries
abbrev pub enter_all : List Pair → List Pair → List Pair
enter_all [] ps = ps
enter_all (x ∷ xs) ps = enter_all xs (enter_pair x ps)

abbrev pub born_all : ℕ → List Pair → List Entry → List Entry
born_all w [] es = es
born_all w (x ∷ xs) es = born_all w xs (enter (born w x) es)

-- "Its wanted list is its live entries at the open version with the change made."
abbrev pub wanted : ℕ → Change → Page → List Pair
wanted w c p = enter_all c.take (those (λ (x : Pair). not (has x.key c.drop)) (pairs_at w p))

-- the page with the change made in place
abbrev pub changed : ℕ → Change → Page → Page
changed w c p = record {
  level = p.level;
  start = p.start;
  end = p.end;
  entries = born_all w c.take (end_those (λ (e : Entry). live_at w e && has e.key c.drop) w p.entries);
}

-- "every live entry is ended and the page's end becomes the open version"
abbrev pub killed : ℕ → Page → Page
killed w p = record { level = p.level; start = p.start; end = w; entries = end_those (live_at w) w p.entries }

-- "A page is active if it starts at the open version."
abbrev pub active : ℕ → Page → Bool
active w p = eqb p.start w

-- a page that goes: an active one is freed, another killed
abbrev pub gone_if : Bool → ℕ → Page → Page
gone_if true w p = free
gone_if false w p = killed w p

abbrev pub gone : ℕ → Page → Page
gone w p = gone_if (active w p) w p
