use Rattle.plan.proofs.laws.Way.{WayCome}
use Prim.Native.Nat.{◌-◌}
use Rattle.plan.proofs.down.way_to.Given as goal

abbrev pub invariant-loop-i : goal.invariant-loop-i
invariant-loop-i l = WayCome l.l l.s l.w l.key l.root l.list (l.n - l.i) l.i l.at
