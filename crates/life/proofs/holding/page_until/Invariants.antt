-- `holding::page_until` meets its contract: of the entries from i on the same are alive up to q. Assumes nothing.
use Prim.Native.Nat.{◌≤◌}
use Rattle.model.specs.Still.{Until}
use Rattle.life.proofs.laws.Still.{alive_from}
use Rattle.life.proofs.holding.page_until.Given as goal

abbrev pub invariant-loop-i : goal.invariant-loop-i
invariant-loop-i l = (l.i ≤ l.n) × Until l.v l.r (alive_from l.page l.n l.v l.r l.i) l.q
