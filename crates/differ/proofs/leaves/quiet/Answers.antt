-- `quiet` meets its contract. Assumes nothing.
use Prim.Native.Nat.{ℕ}
use mathlib.Core.Bool.{not}
use mathlib.Core.Path.{refl, ◌∙◌}
use native.Mathlib.Omega.{arith}
use Rattle.std.proofs.Common.{rules, tests}
use Rattle.std.proofs.lemmas.Iterator.{YieldsList-from_range}
use Rattle.std.proofs.lemmas.Iterator.Search.{all_from_yields_List}
use Rattle.walk.specs.Scan.{entry}
use Rattle.differ.specs.Quiet.{moves}
use Rattle.differ.proofs.laws.Quiet.{quiet-places}
use Rattle.differ.proofs.leaves.quiet.Goals as goal

pub returns : goal.returns
returns c =
    let a = c.args in
    all_from_yields_List (λ (i : ℕ). not (moves a.u a.v (entry a.page.now i))) _ _ _ c.all.ensures.ran
    (YieldsList-from_range 0 a.n a.n refl (omega arith)) (λ x b q k. search (rules, tests))
    ∙ quiet-places a.page.now a.n a.u a.v a.n 0 (omega arith)
