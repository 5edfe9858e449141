-- `tell` meets its contract. Assumes nothing.
use Rattle.differ.proofs.laws.Halfway.{ToldBelow}
use Rattle.model.specs.Walk.{key_limit}
use Prim.Native.Nat.{◌-◌}
use Rattle.differ.proofs.tell.Given as goal

abbrev pub invariant-loop-key : goal.invariant-loop-key
invariant-loop-key l = ToldBelow l.l l.s l.u l.v l.write l.initial.list l.list l.found l.key

abbrev pub decreases-loop-key : goal.decreases-loop-key
decreases-loop-key l = key_limit - l.key
