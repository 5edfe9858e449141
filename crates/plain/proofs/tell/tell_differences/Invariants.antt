-- `tell_differences` meets its contract: what is left is what differs of the keys from k on. Assumes nothing.
use Prim.Native.Nat.{◌-◌, ◌≤◌}
use Rattle.model.specs.Walk.{key_limit}
use Rattle.model.proofs.reading.Telling.{Gathering}
use Rattle.model.specs.Telling.{deltas}
use Rattle.plain.specs.Plain.{differs, keys}
use Rattle.plain.specs.Items.{from}
use Rattle.plain.proofs.laws.Scan.{told, saying}
use Rattle.plain.proofs.tell.tell_differences.Given as goal

abbrev pub invariant-loop-k : goal.invariant-loop-k
invariant-loop-k l =
    (l.k ≤ key_limit)
    × Gathering deltas l.write l.initial.list l.list 0 l.found (differs l.u l.v (from l.items 0 l.n))
    (told (saying l.u l.v (from l.items 0 l.n)) l.k keys)

abbrev pub decreases-loop-k : goal.decreases-loop-k
decreases-loop-k l = key_limit - l.k
