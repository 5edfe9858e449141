-- `set_missing` meets its contract: what is left is done by the keys from k on. Assumes nothing.
use Prim.Native.Nat.{◌-◌}
use Rattle.model.specs.Walk.{key_limit}
use Rattle.plain.specs.Plain.{set_missing}
use Rattle.plain.proofs.laws.Turns.{Turning}
use Rattle.plain.proofs.back.set_missing.Given as goal

abbrev pub invariant-loop-k : goal.invariant-loop-k
invariant-loop-k l = Turning (set_missing l.w l.v) l.initial.items l.n l.items l.m l.k

abbrev pub decreases-loop-k : goal.decreases-loop-k
decreases-loop-k l = key_limit - l.k
