-- `table::fill_page` meets its contract: the places from i on are known. Assumes nothing.
use mathlib.Core.Path.{◌≡◌}
use lib.ListN.{length}
use Rattle.tabled.proofs.laws.Filling.{Filling}
use Rattle.tabled.proofs.table.fill_page.Given as goal

abbrev pub invariant-loop-i : goal.invariant-loop-i
invariant-loop-i l = Filling l.l.least l.s l.q.version l.q.low l.q.high l.level l.n l.i l.rest l.table × (length l.table ≡ length l.initial.table)
