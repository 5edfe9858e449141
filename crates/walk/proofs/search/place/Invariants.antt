-- `place` meets its contract: r is the place among the first i. Assumes nothing.
use Prim.Native.Nat.{◌≤◌}
use Rattle.walk.specs.Places.{Place}
use Rattle.walk.proofs.search.place.Given as goal

abbrev pub invariant-loop-i : goal.invariant-loop-i
invariant-loop-i l = (l.i ≤ l.end) × (l.end ≤ l.n) × Place l.page l.k l.i l.r
