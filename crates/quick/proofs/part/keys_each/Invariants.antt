use Prim.Native.Nat.{ℕ, ◌-◌, ◌+◌, ◌*◌}
use mathlib.Core.Bool.{Bool}
use mathlib.Core.Path.{◌≡◌}
use Rattle.model.specs.Basic.{all}
use Rattle.model.specs.Layout.{read_entries}
use Rattle.quick.specs.Part.{key_fine}
use Rattle.quick.proofs.part.keys_each.Given as goal

abbrev pub invariant-loop-i : goal.invariant-loop-i
invariant-loop-i g l =
    (f : ℕ → Bool) → ((x : ℕ) (r : Bool) → goal.F-post g l.fine x r → r ≡ f x)
    → all (key_fine f l.a l.b) (read_entries l.page 128 l.n)
    ≡ all (key_fine f l.a l.b) (read_entries l.page (128 + 96 * l.i) (l.n - l.i))
