-- The difference of two versions, key by key: two cursors stand at the first keys, and the smaller one says what differs there.
use Rattle.std.specs.Prelude.{ℕ, ◌≤◌, List, [], ◌∷◌, ltb, eqb}
use Rattle.model.specs.Basic.{pick}
use Rattle.model.specs.declared.Pair.{Pair}
use Rattle.model.specs.declared.Delta.{Delta}
use Rattle.model.specs.Walk.{key_limit}
use Rattle.model.specs.Differ.{added, removed, differ}
use Rattle.cursor.specs.First.{at_or_above}

-- what two cursors say of the smaller of their keys: 3 where both have it with one value
abbrev pub compared : Pair → Pair → Delta
compared x y =
    pick (ltb x.key y.key) (removed x)
    (pick (ltb y.key x.key) (added y)
    (record { key = x.key; kind = pick (eqb x.value y.value) 3 2; old = x.value; new = y.value }))

abbrev pub told : Delta → List Delta
told d = pick (eqb d.kind 3) [] (d ∷ [])

-- ---- the walk from key to key

-- what is left of the difference from a key on
unfoldable pub left : List Pair → List Pair → ℕ → List Delta
left us ws k = differ (at_or_above k us) (at_or_above k ws)

-- a key between k and the limit
pub record Onward (k m : ℕ) : Type 0 where
  pub low : k ≤ m
  pub high : m ≤ key_limit
