use Prim.Native.Nat.{◌-◌, ◌+◌, ◌*◌}
use mathlib.Core.Path.{◌≡◌}
use Rattle.model.specs.Layout.{read_entries}
use Rattle.spans.specs.Quick.{past_all}
use Rattle.quick.proofs.part.past_behind.Given as goal

abbrev pub invariant-loop-k : goal.invariant-loop-k
invariant-loop-k l =
    past_all l.a (read_entries l.page (128 + 96 * l.i) (l.n - l.i)) ≡ past_all l.t (read_entries l.page (128 + 96 * l.k) (l.n - l.k))
