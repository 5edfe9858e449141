-- `within::range_right` meets its contract, by what is left: each call of itself has less. Assumes nothing.
use Prim.Native.Nat.{pred, ◌≤◌, ◌<◌, ◌+◌, ◌-◌}
use mathlib.Core.List.{◌∷◌}
use mathlib.Core.Path.{◌≡◌}
use Rattle.model.specs.Walk.{between}
use Rattle.model.specs.Entry.{pair_of}
use Rattle.model.specs.Near.{range_right}
use Rattle.walk.specs.Live.{live}
use Rattle.walk.specs.Scan.{Stands, from, entry}
use Rattle.tabled.specs.Across.{right_from}
use Rattle.near.proofs.within.+range_right.Given as goal

-- what is left
abbrev pub decreases-range_right : goal.decreases-range_right
decreases-range_right l = l.left

-- the first child and those before i are right, so that those from i on say what all say
abbrev pub invariant-loop-i : goal.invariant-loop-i
invariant-loop-i l =
    (l.i ≤ l.h.count)
    × (l.i < l.h.count → between 0 l.q.high (live l.q.version (from l.p l.i l.h.count))
    ≡ pair_of (entry l.p l.i) ∷ between 0 l.q.high (live l.q.version (from l.p (l.i + 1) l.h.count)))
    × (l.rest < l.left)
    × (range_right l.l.least l.s l.q.version (pred l.level) l.q.high l.at l.n
    ≡ right_from l.l.least l.s l.q.version l.q.high (pred (l.level - 1)) l.p l.h.count l.i)
    × Stands l.p l.h.count

abbrev pub decreases-loop-i : goal.decreases-loop-i
decreases-loop-i l = l.h.count - l.i
