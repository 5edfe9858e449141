-- The entries from i on, behind the last one kept, answer as all. Assumes nothing.
use Prim.Native.Nat.{◌-◌, ◌+◌, ◌*◌}
use mathlib.Core.Bool.{true}
use mathlib.Core.Path.{◌≡◌}
use Rattle.model.specs.Basic.{in_order}
use Rattle.model.specs.Entry.{before}
use Rattle.model.specs.Layout.{read_entries}
use Rattle.spans.specs.Quick.{kept, apart}
use Rattle.quick.proofs.laws.Part.{behind}
use Rattle.quick.proofs.part.all_apart.Given as goal

abbrev pub invariant-loop-i : goal.invariant-loop-i
invariant-loop-i l = (in_order before (read_entries l.page (128 + 96 * l.i) (l.n - l.i)) ≡ true)
    × (in_order apart (kept l.old (read_entries l.page 128 l.n)) ≡ behind l.old l.last (read_entries l.page (128 + 96 * l.i) (l.n - l.i)))
