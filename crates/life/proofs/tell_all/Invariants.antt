-- `tell_all` meets its contract: what is left is the life from version v on. Assumes nothing.
use Prim.Native.Nat.{suc, ◌≤◌, ◌-◌}
use Rattle.model.specs.Walk.{lookup}
use Rattle.model.specs.Layout.{decode}
use Rattle.model.specs.Life.{life_of}
use Rattle.model.proofs.reading.Lives.{rest}
use Rattle.model.proofs.reading.Telling.{Gathering}
use Rattle.model.specs.Still.{stretches}
use Rattle.life.proofs.tell_all.Given as goal

abbrev pub invariant-loop-v : goal.invariant-loop-v
invariant-loop-v l = (l.v ≤ suc l.c) × (l.old ≤ l.v) × Gathering stretches l.write l.initial.list l.list 0 l.found (life_of l.old l.c (lookup (decode l.l.least l.s) l.key))
    (rest l.c (lookup (decode l.l.least l.s) l.key) l.v)

abbrev pub decreases-loop-v : goal.decreases-loop-v
decreases-loop-v l = suc l.c - l.v
