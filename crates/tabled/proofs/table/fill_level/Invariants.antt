-- `table::fill_level` meets its contract: the turns of this level before page n have been. Assumes nothing.
use Prim.Native.Nat.{◌+◌, ◌*◌, ◌≤◌}
use mathlib.Core.Path.{◌≡◌}
use lib.ListN.{length}
use Rattle.tabled.specs.Cells.{Table}
use Rattle.tabled.proofs.table.fill_level.Given as goal

abbrev pub invariant-loop-n : goal.invariant-loop-n
invariant-loop-n l = (l.n ≤ 4096) × Table l.l.least l.s l.q.version l.q.low l.q.high (l.level * 4096 + l.n) l.table × (length l.table ≡ length l.initial.table)
