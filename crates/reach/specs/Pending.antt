-- The walk over a stretch of versions with a list of pages that wait: what it tests, what it has seen, and what it tells.
use Rattle.std.specs.Prelude.{ℕ, ◌+◌, ◌*◌, ◌-◌, ◌<◌, ◌≤◌, Bool, true, false, ◌&&◌, ◌||◌, not, ◌≡◌, List, [], ◌∷◌, map, leb, ltb, eqb, length, get_or, Option, Some, is_some}
use Rattle.model.specs.declared.Pair.{Pair}
use Rattle.model.specs.Basic.{those, pick, all, any, flat_map, count}
use Rattle.model.specs.Entry.{pair_of, live_at, within}
use Rattle.model.specs.Walk.{Seen, seen_below, key_limit}
use Rattle.model.specs.Sound.{starts_at, fewest}
use Rattle.model.specs.Layout.{read_entry, read_entries, decode}

-- ---- what rule 4 or 5 asks of a page that is reached, in the order of the walk: once, then of each live entry

-- the first key of a list of pairs, or d
abbrev pub first_key : List Pair → ℕ → ℕ
first_key [] d = d
first_key (x ∷ xs) d = x.key

unfoldable pub open_ok : ℕ → ℕ → Bool → ℕ → ℕ → List Pair → Bool
open_ok least rule root up low xs =
    pick (eqb rule 4) (eqb up 0 || starts_at low xs) (not (eqb rule 5) || leb (fewest least root up) (length xs))

unfoldable pub step_ok : (rule low high next key : ℕ) → Bool
step_ok rule low high next key = not (eqb rule 4) || (within low high key && ltb key next)

unfoldable pub chain_ok : (rule low high : ℕ) (xs : List Pair) → Bool
chain_ok rule low high [] = true
chain_ok rule low high (x ∷ xs) = step_ok rule low high (first_key xs high) x.key && chain_ok rule low high xs

unfoldable pub passes : ℕ → ℕ → Seen → Bool
passes least rule x = open_ok least rule x.is_root x.up x.low x.pairs && chain_ok rule x.low x.high x.pairs

-- at each version from a up to, not including, b
abbrev pub over : (ℕ → List Seen) → ℕ → ℕ → List Seen
over f a b = flat_map f (count a (b - a))

-- ---- the live pairs of a page from place i on

unfoldable pub pairs_from : (p : List ℕ) (v i n : ℕ) → List Pair
pairs_from p v i n = map pair_of (those (live_at v) (read_entries p (128 + 96 * i) (n - i)))

-- r is the place of the first live entry from i on, or n
pub record NextLive (p : List ℕ) (v i n r : ℕ) : Type 0 where
  pub low : i ≤ r
  pub high : r ≤ n
  pub same : pairs_from p v i n ≡ pairs_from p v r n
  pub live : r < n → pairs_from p v r n ≡ pair_of (read_entry p (128 + 96 * r)) ∷ pairs_from p v (r + 1) n
  pub alive : r < n → live_at v (read_entry p (128 + 96 * r)) ≡ true

-- ---- what a walk from page r, up levels above the leaves, tells

unfoldable pub whole : (least : ℕ) (s : List ℕ) (up v r : ℕ) → List Seen
whole least s up v r = seen_below up (decode least s).pages v true 0 key_limit r

unfoldable pub whole_in : (least : ℕ) (s : List ℕ) (up a b r : ℕ) → List Seen
whole_in least s up a b r = over (λ (v : ℕ). whole least s up v r) a b

abbrev pub is_number : ℕ → Seen → Bool
is_number n x = eqb n x.number

-- at each version from a up to, not including, b
pub record Tells (least : ℕ) (s : List ℕ) (r up a b rule : ℕ) (w : Option (List Bool)) : Type 0 where
  pub verdict : is_some w ≡ all (passes least rule) (whole_in least s up a b r)
  pub marked : (marks : List Bool) → w ≡ Some marks → (m : ℕ) → get_or marks m false ≡ any (is_number m) (whole_in least s up a b r)
