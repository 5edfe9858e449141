-- `value_at` meets its contract: the value of all items is that of the items left. Assumes nothing.
use mathlib.Core.Path.{◌≡◌}
use Rattle.plain.specs.Plain.{value_at}
use Rattle.plain.specs.Items.{from}
use Rattle.plain.proofs.items.value_at.Given as goal

abbrev pub invariant-loop-i : goal.invariant-loop-i
invariant-loop-i l = value_at l.key l.v (from l.items 0 l.n) ≡ value_at l.key l.v (from l.items l.i l.n)
