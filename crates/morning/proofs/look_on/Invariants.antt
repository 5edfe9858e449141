use Prim.Native.Nat.{◌<◌}
use Rattle.morning.proofs.look_on.Given as goal

abbrev pub invariant-loop : goal.invariant-loop
invariant-loop l = (l.key < 16777216) × ((l.stride < 16777216) × (l.sum < 4294967296))
