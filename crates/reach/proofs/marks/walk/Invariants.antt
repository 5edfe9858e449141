-- `reach::marks::walk` meets its contract: what is done and what waits are the whole walk (specs/Walking), and each step keeps it so
-- (specs/Taking, Steps). Assumes nothing.
use Prim.Native.Nat.{◌-◌}
use Rattle.reach.proofs.laws.Walking.{Walking, Entering}
use Rattle.reach.proofs.laws.Pending.{weigh}
use Rattle.reach.proofs.marks.walk.Given as goal

abbrev pub invariant-loop-j : goal.invariant-loop-j
invariant-loop-j l = Entering l.l.least l.s l.root l.up l.a l.b l.rule l.marks l.initial.items l.initial.top l.it l.n l.p l.count l.c l.items l.top l.j

abbrev pub decreases-loop-j : goal.decreases-loop-j
decreases-loop-j l = l.count - l.j

abbrev pub invariant-walk : goal.invariant-walk
invariant-walk l = Walking l.l.least l.s l.root l.up l.a l.b l.rule l.marks l.items l.top

abbrev pub decreases-walk : goal.decreases-walk
decreases-walk l = weigh l.items l.top
