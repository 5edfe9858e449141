-- One of two leaves as it is gone through: what is left of it in a stretch of keys.
use Rattle.std.specs.Prelude.{ℕ, ◌+◌, ◌≤◌, ◌<◌, true, ◌≡◌, List, ◌∷◌}
use Rattle.model.specs.declared.Pair.{Pair}
use Rattle.model.specs.Walk.{between, key_limit}
use Rattle.model.specs.Inner.{rising}
use Rattle.model.specs.Tree.{in_range}
use Rattle.walk.specs.Live.{live}
use Rattle.walk.specs.Scan.{from}
use Rattle.cursor.specs.First.{leads}
use Rattle.differ.specs.declared.leaves.Side.{Side}

-- the settings from lo to hi alive at v, from place i on among n entries
abbrev pub rest : (p : List ℕ) (n v lo hi i : ℕ) → List Pair
rest p n v lo hi i = between lo hi (live v (from p i n))

-- settings that stand by key
pub record Ordered (xs : List Pair) : Type 0 where
  pub rises : rising xs ≡ true
  pub low : in_range 0 key_limit xs ≡ true

-- the first of what is left stands there
pub record At (p : List ℕ) (n v lo hi : ℕ) (x : Side) : Type 0 where
  pub within : x.place ≤ n
  pub pair : x.pair ≡ leads (rest p n v lo hi x.place)
  pub here : x.place < n → rest p n v lo hi x.place ≡ x.pair ∷ rest p n v lo hi (x.place + 1)
  pub rises : rising (rest p n v lo hi x.place) ≡ true
