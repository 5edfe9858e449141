-- `merge` meets its contract. Assumes nothing.
use Rattle.differ.proofs.laws.Halfway.{Halfway}
use Rattle.model.specs.Walk.{key_limit}
use Prim.Native.Nat.{◌+◌, ◌-◌}
use Rattle.differ.proofs.leaves.merge.Given as goal

abbrev pub invariant-loop-key : goal.invariant-loop-key
invariant-loop-key l = Halfway l.p l.m l.q l.n l.a l.initial.list l.list l.found l.sum l.key l.x l.y

abbrev pub decreases-loop-key : goal.decreases-loop-key
decreases-loop-key l = key_limit + 1 - l.key
