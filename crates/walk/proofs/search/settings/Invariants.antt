-- `settings` meets its contract. Assumes nothing.
use Prim.Native.Nat.{ℕ, ◌≤◌, ◌<◌, ◌+◌, ◌-◌}
use mathlib.Core.List.{List, ◌∷◌}
use mathlib.Core.Path.{◌≡◌}
use Rattle.model.specs.Walk.{between}
use Rattle.model.specs.Entry.{pair_of}
use Rattle.model.specs.declared.Pair.{Pair}
use Rattle.walk.proofs.laws.Written.{PairGathering}
use Rattle.walk.specs.declared.search.Query.{Query}
use Rattle.walk.specs.Scan.{from, entry}
use Rattle.walk.specs.Live.{live}
use Rattle.walk.proofs.search.settings.Given as goal

-- the settings asked for from place i on
abbrev pub asked : List ℕ → Query → ℕ → ℕ → List Pair
asked p q n i = between q.low q.high (live q.version (from p i n))

abbrev pub invariant-loop-i : goal.invariant-loop-i
invariant-loop-i l = (l.i ≤ l.n) × (l.i < l.n → asked l.page l.q l.n l.i ≡ pair_of (entry l.page l.i) ∷ asked l.page l.q l.n (l.i + 1))
    × PairGathering l.q.write l.initial.list l.list l.found l.sum (asked l.page l.q l.n 0) (asked l.page l.q l.n l.i)

abbrev pub decreases-loop-i : goal.decreases-loop-i
decreases-loop-i l = l.n - l.i
