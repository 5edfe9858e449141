-- `next_place` meets its contract: what the range has from i on, it has from k on. Assumes nothing.
use Prim.Native.Nat.{◌≤◌}
use mathlib.Core.Path.{◌≡◌}
use Rattle.model.specs.Walk.{between}
use Rattle.walk.specs.Live.{live}
use Rattle.walk.specs.Scan.{from}
use Rattle.walk.proofs.search.next_place.Given as goal

abbrev pub invariant-loop-k : goal.invariant-loop-k
invariant-loop-k l = (l.i ≤ l.k) × (l.k ≤ l.n) × (between l.low l.high (live l.v (from l.page l.i l.n)) ≡ between l.low l.high (live l.v (from l.page l.k l.n)))
