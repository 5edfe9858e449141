-- `write::gather_by` meets its contract. Assumes nothing.
use Prim.Native.Nat.{◌≤◌, ◌<◌, ◌+◌, ◌-◌}
use mathlib.Core.List.{◌∷◌}
use mathlib.Core.Bool.{true}
use mathlib.Core.Path.{◌≡◌}
use Rattle.model.specs.Layout.{page_of, decode}
use Rattle.model.specs.Walk.{between}
use Rattle.model.specs.Entry.{pair_of}
use Rattle.local.specs.Local.{count_at}
use Rattle.walk.proofs.laws.Written.{PairGathering}
use Rattle.tabled.specs.Across.{right_from}
use Rattle.walk.specs.Below.{later}
use Rattle.walk.specs.Scan.{from, entry}
use Rattle.walk.specs.Live.{live}
use Rattle.tabled.proofs.write.+gather_by.Given as goal

abbrev pub decreases-gather_by : goal.decreases-gather_by
decreases-gather_by l = l.up

abbrev pub invariant-loop-i : goal.invariant-loop-i
invariant-loop-i l =
    (l.i ≤ count_at l.l.least l.s l.n)
    × (l.i < count_at l.l.least l.s l.n → between 0 l.q.high (live l.q.version (from (page_of l.l.least l.s l.n) l.i (count_at l.l.least l.s l.n)))
    ≡ pair_of (entry (page_of l.l.least l.s l.n) l.i) ∷ between 0 l.q.high
    (live l.q.version (from (page_of l.l.least l.s l.n) (l.i + 1) (count_at l.l.least l.s l.n))))
    × PairGathering l.q.write l.initial.list l.list l.initial.k l.k
    (later (l.up - 1) (decode l.l.least l.s).pages l.q.version l.q.low l.q.high (page_of l.l.least l.s l.n) (count_at l.l.least l.s l.n) l.initial.i)
    (later (l.up - 1) (decode l.l.least l.s).pages l.q.version l.q.low l.q.high (page_of l.l.least l.s l.n) (count_at l.l.least l.s l.n) l.i)
    × (right_from l.l.least l.s l.q.version l.q.high (l.up - 1) (page_of l.l.least l.s l.n) (count_at l.l.least l.s l.n) l.i ≡ true)

abbrev pub decreases-loop-i : goal.decreases-loop-i
decreases-loop-i l = count_at l.l.least l.s l.n - l.i
