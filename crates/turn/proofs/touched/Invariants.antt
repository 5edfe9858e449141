-- `touched` meets its contract: what is left to be read decides for all. Assumes nothing.
use Prim.Native.Nat.{◌≤◌}
use Rattle.turn.proofs.laws.Touched.{Still, from}
use Rattle.turn.proofs.touched.Given as goal

abbrev pub invariant-loop-i : goal.invariant-loop-i
invariant-loop-i l = (l.i ≤ l.count) × (Still l.w (from l.page l.i l.count) → Still l.w (from l.page 0 l.count))
