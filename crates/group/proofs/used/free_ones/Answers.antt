use Rattle.group.proofs.laws.Numbers.{frees-none, frees-some}
use Rattle.parts.specs.Kept.{pages_of}
use native.Mathlib.Omega.{arith}
use Prim.Native.Nat.{ℕ, ◌<◌, ◌≤◌}
use mathlib.Core.Path.{◌≡◌}
use Rattle.group.proofs.used.free_ones.Goals as goal
use Rattle.group.proofs.used.free_ones.Goals.{Else-x-size}

pub first_free-x-requires : goal.first_free-x-requires
first_free-x-requires c = (c.requires.0, omega arith, omega (arith, c.requires.1, c.requires.0.holds.five), c.requires.1)

pub returns-then-x-size : goal.returns-then-x-size
returns-then-x-size c =
    rw (← frees-none (pages_of c.args.l c.args.s.now) c.args.size c.first_free-x.result
    c.first_free-x.ensures c.if-x-size.true) c.chosen.ensures

less : (c : Else-x-size) → c.first_free-x.result < c.args.size
less c = below c.first_free-x.result c.args.size c.first_free-x.ensures.high c.if-x-size.false
  where
    below : (m n : ℕ) → m ≤ n → (m ≡ n → ⊥) → m < n
    below m n h ne = omega arith

pub overflow_add-x : goal.overflow_add-x
overflow_add-x c = omega (arith, less ((goal.at.overflow_add-x c).Else-x-size))

pub first_free-y-requires : goal.first_free-y-requires
first_free-y-requires c = (c.requires.0, omega (arith, c.first_free-x.ensures.low), omega (arith, less ((goal.at.first_free-y-requires c).Else-x-size)), c.requires.1)

pub returns : goal.returns
returns c =
    rw (← frees-some (pages_of c.args.l c.args.s.now) c.args.size c.first_free-x.result
    c.first_free-x.ensures c.first_free-y.result (less (goal.at.returns c).Else-x-size) c.first_free-y.ensures)
    c.chosen-2.ensures
