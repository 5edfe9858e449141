-- `sweep` meets its contract: what is left is the sweep of the items from place i on. Assumes nothing.
use Prim.Native.Nat.{ℕ, ◌≤◌}
use mathlib.Core.Bool.{true}
use mathlib.Core.Path.{◌≡◌}
use Rattle.std.specs.Prelude.{Option}
use Rattle.model.specs.declared.Entry.{Entry}
use Rattle.model.proofs.reading.Telling.{Gathering}
use Rattle.plain.specs.Items.{from, kept}
use Rattle.plain.specs.Sweep.{swept}
use Rattle.plain.proofs.sweep.sweep.Given as goal

abbrev pub invariant-loop-i : goal.invariant-loop-i
invariant-loop-i g l =
    (l.j ≤ l.i)
    × ((f : Entry → Option ℕ) → ((e : Entry) (o : Option ℕ) → goal.F-post g l.fate e o → o ≡ f e)
    → Gathering kept true l.initial.items l.items 0 l.j (swept f (from l.initial.items 0 l.n)) (swept f (from l.items l.i l.n)))
