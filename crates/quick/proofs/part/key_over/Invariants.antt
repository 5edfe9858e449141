use Prim.Native.Nat.{◌-◌, ◌+◌, ◌*◌}
use mathlib.Core.Path.{◌≡◌}
use lib.Dec.{eqb}
use Rattle.model.specs.Basic.{those}
use Rattle.model.specs.declared.Entry.{Entry}
use Rattle.model.specs.Layout.{read_entries}
use Rattle.spans.specs.Quick.{past_all}
use Rattle.quick.proofs.part.key_over.Given as goal

abbrev pub invariant-loop-i : goal.invariant-loop-i
invariant-loop-i l =
    past_all l.a (those (λ (e : Entry). eqb e.key l.k) (read_entries l.page 128 l.n))
    ≡ past_all l.t (those (λ (e : Entry). eqb e.key l.k) (read_entries l.page (128 + 96 * l.i) (l.n - l.i)))
