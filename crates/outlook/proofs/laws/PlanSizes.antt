-- How large the change is that the plan hands up.
-- Assumes nothing.
use Prim.Native.Nat.{ℕ, ◌≤◌}
use native.Mathlib.Omega.{arith}
use mathlib.Core.List.{List}
use lib.ListN.{length, get_or}
use Rattle.model.specs.Rules
use Rattle.model.specs.Rules.{Group, Parts, routers_to}
use Rattle.outlook.specs.Plan
use Rattle.outlook.specs.Plan.{untaken, parent_change}
use Rattle.model.proofs.needs.Sizes.{routers_to-few, exchange-drops, exchange-takes}

pub change-drops : (least : ℕ) (g : Group) (ns : List ℕ) → length (parent_change least g ns).drop ≤ length g.routers
unfolding Plan.parent_change
change-drops least g ns = exchange-drops g.routers _

pub change-takes : (least : ℕ) (g : Group) (ns : List ℕ) → length (parent_change least g ns).take ≤ 2
unfolding Plan.parent_change
change-takes least g ns =
    let x : Parts = Rules.parts least g.pairs in
    let n : ℕ = get_or ns 0 untaken in
    let m : ℕ = get_or ns 1 untaken in
    omega (arith, exchange-takes g.routers (routers_to g.routers x n m), routers_to-few g.routers x n m)
