-- `tell_settings` meets its contract: what is left is what the keys from k on show. Assumes nothing.
use Prim.Native.Nat.{suc, ◌-◌, ◌≤◌}
use Rattle.model.specs.Walk.{key_limit}
use Rattle.model.proofs.reading.Telling.{Gathering}
use Rattle.plain.specs.Plain.{settings}
use Rattle.plain.specs.Items.{from}
use Rattle.plain.proofs.laws.Scan.{told}
use Rattle.plain.specs.Tell.{pairs}
use Rattle.plain.proofs.laws.Tell.{showing}
use Rattle.plain.proofs.tell.tell_settings.Given as goal

abbrev pub invariant-loop-k : goal.invariant-loop-k
invariant-loop-k l =
    (l.k ≤ key_limit)
    × Gathering pairs l.write l.initial.list l.list 0 l.found (settings l.low l.high l.v (from l.items 0 l.n))
    (told (showing l.v (from l.items 0 l.n)) l.k (suc l.high))

abbrev pub decreases-loop-k : goal.decreases-loop-k
decreases-loop-k l = key_limit - l.k
