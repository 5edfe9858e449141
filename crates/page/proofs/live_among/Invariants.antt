-- `page::live_among` meets its contract: those counted and those from i on are all. Assumes nothing.
use Prim.Native.Nat.{◌≤◌, ◌+◌}
use mathlib.Core.Path.{◌≡◌}
use lib.ListN.{length}
use Rattle.model.specs.Basic.{those}
use Rattle.model.specs.Layout.{lives, read_entries}
use Rattle.page.proofs.laws.Live.{live_from}
use Rattle.page.proofs.live_among.Given as goal

abbrev pub invariant-loop-i : goal.invariant-loop-i
invariant-loop-i l = (l.live ≤ l.i) × (length (those lives (read_entries l.page 128 l.n)) ≡ l.live + live_from l.page l.i l.n)
