-- `table::fill_levels` meets its contract: the turns of the levels below k have been. Assumes nothing.
use Prim.Native.Nat.{◌+◌, ◌*◌, ◌≤◌}
use mathlib.Core.Path.{◌≡◌}
use lib.ListN.{length}
use Rattle.tabled.specs.Cells.{Table}
use Rattle.tabled.proofs.table.fill_levels.Given as goal

abbrev pub invariant-loop-k : goal.invariant-loop-k
invariant-loop-k l = (2 ≤ l.k) × (l.k ≤ l.level + 1) × Table l.l.least l.s l.q.version l.q.low l.q.high (l.k * 4096) l.table × (length l.table ≡ length l.initial.table)
