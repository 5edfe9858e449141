-- `past` meets its contract. Assumes nothing.
use Rattle.differ.proofs.laws.Past.{high-low, high-top, past-on}
use mathlib.Core.Bool.{false}
use mathlib.Core.Path.{refl, ◌∙◌}
use native.Mathlib.Omega.{arith}
use Rattle.differ.proofs.past.Goals as goal

pub loop-key-init : goal.loop-key-init
loop-key-init c = (c.requires.2, omega arith, refl)

pub leaf_for-x-requires : goal.leaf_for-x-requires
leaf_for-x-requires c = (c.requires.0, c.loop-key-test.true)

pub leaf_for-y-requires : goal.leaf_for-y-requires
leaf_for-y-requires c = (c.requires.1, c.loop-key-test.true)

pub overflow_sub-a : goal.overflow_sub-a
overflow_sub-a c =
    omega (
      arith,
      high-low c.requires.0 c.requires.1 c.loop-key.key c.leaf_for-x.result
          c.leaf_for-y.result c.leaf_for-x.ensures c.leaf_for-y.ensures c.min-high.result
          c.min-high.ensures,
    )

pub alike-requires : goal.alike-requires
alike-requires c = (c.requires.0, c.requires.1, c.leaf_for-x.ensures, c.leaf_for-y.ensures)

pub returns-then-not-alike : goal.returns-then-not-alike
returns-then-not-alike c = let i = c.loop-key.invariant in (record { low = i.1; high = i.0 }, i.2)

pub loop-key-smaller : goal.loop-key-smaller
loop-key-smaller c =
    omega (
      arith,
      high-low c.requires.0 c.requires.1 c.loop-key.key c.leaf_for-x.result
          c.leaf_for-y.result c.leaf_for-x.ensures c.leaf_for-y.ensures c.min-high.result
          c.min-high.ensures,
      high-top c.requires.0 c.requires.1 c.loop-key.key c.leaf_for-x.result c.leaf_for-y.result
          c.leaf_for-x.ensures c.leaf_for-y.ensures c.min-high.result c.min-high.ensures,
    )

pub loop-key-preserved : goal.loop-key-preserved
loop-key-preserved c =
    let i = c.loop-key.invariant in (
      high-top c.requires.0 c.requires.1 c.loop-key.key c.leaf_for-x.result c.leaf_for-y.result
          c.leaf_for-x.ensures c.leaf_for-y.ensures c.min-high.result c.min-high.ensures,
      omega (
        arith,
        i.1,
        high-low c.requires.0 c.requires.1 c.loop-key.key c.leaf_for-x.result
            c.leaf_for-y.result c.leaf_for-x.ensures c.leaf_for-y.ensures c.min-high.result
            c.min-high.ensures,
      ),
      i.2 ∙ past-on c.requires.0 c.requires.1 c.loop-key.key c.leaf_for-x.result
          c.leaf_for-y.result c.leaf_for-x.ensures c.leaf_for-y.ensures c.min-high.result
          c.min-high.ensures false (c.alike.ensures c.if-not-alike.false),
    )

pub returns : goal.returns
returns c = let i = c.loop-key.invariant in (record { low = i.1; high = i.0 }, i.2)
