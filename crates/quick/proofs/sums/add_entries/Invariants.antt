use Rattle.quick.specs.Sums.{Sums, add_entries}
use Rattle.model.specs.Layout.{read_entries}
use Prim.Native.Nat.{◌+◌, ◌*◌, ◌-◌}
use mathlib.Core.Path.{◌≡◌}
use Rattle.quick.proofs.sums.add_entries.Given as goal

abbrev pub invariant-loop-i : goal.invariant-loop-i
invariant-loop-i l = Sums (200000 + l.i) l.sums
    × (add_entries l.old l.initial.sums (read_entries l.page 128 l.n) ≡ add_entries l.old l.sums (read_entries l.page (128 + 96 * l.i) (l.n - l.i)))
