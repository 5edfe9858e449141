-- `gather` meets its contract. Assumes nothing.
use Prim.Native.Nat.{◌≤◌, ◌<◌, ◌+◌, ◌-◌}
use mathlib.Core.List.{◌∷◌}
use mathlib.Core.Bool.{true}
use mathlib.Core.Path.{◌≡◌}
use Rattle.model.specs.Layout.{decode}
use Rattle.model.specs.Walk.{between}
use Rattle.model.specs.Entry.{pair_of}
use Rattle.walk.proofs.laws.Written.{PairGathering}
use Rattle.tabled.specs.Across.{right_from}
use Rattle.walk.specs.Below.{later}
use Rattle.walk.specs.Scan.{from, entry}
use Rattle.walk.specs.Live.{live}
use Rattle.near.proofs.+gather.Given as goal

abbrev pub decreases-gather : goal.decreases-gather
decreases-gather l = l.up

abbrev pub invariant-loop-i : goal.invariant-loop-i
invariant-loop-i l =
    (l.i ≤ l.count) ×
    (l.i < l.count → between 0 l.q.high (live l.q.version (from l.p l.i l.count))
    ≡ pair_of (entry l.p l.i) ∷ between 0 l.q.high (live l.q.version (from l.p (l.i + 1) l.count)))
    × PairGathering l.q.write l.initial.list l.list l.initial.k l.k (later (l.up - 1) (decode l.l.least l.s).pages l.q.version l.q.low l.q.high l.p l.count l.initial.i)
    (later (l.up - 1) (decode l.l.least l.s).pages l.q.version l.q.low l.q.high l.p l.count l.i)
    × (right_from l.l.least l.s l.q.version l.q.high (l.up - 1) l.p l.count l.i ≡ true)

abbrev pub decreases-loop-i : goal.decreases-loop-i
decreases-loop-i l = l.count - l.i
