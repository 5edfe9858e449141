-- `table::down` meets its contract: the number of the whole walk is that of what was passed, joined with what is left. Assumes nothing.
use Prim.Native.Nat.{pred, ◌+◌, ◌*◌, ◌-◌, ◌^◌, ◌≤◌, ◌<◌}
use mathlib.Core.Path.{◌≡◌}
use Rattle.tabled.specs.Table.{found}
use Rattle.tabled.specs.Told.{join}
use Rattle.tabled.proofs.table.down.Given as goal

abbrev pub invariant-loop-k : goal.invariant-loop-k
invariant-loop-k l = (0 < l.k) × (l.k ≤ l.level) × (l.sum ≤ (l.level - l.k) * 2 ^ 41 + 1)
    × (found l.l.least l.s l.q.version l.q.low l.q.high (pred l.level) l.at l.n
    ≡ join l.sum (found l.l.least l.s l.q.version l.q.low l.q.high (pred l.k) l.at l.m))
