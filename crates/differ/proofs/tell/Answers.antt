-- `tell` meets its contract. Assumes nothing.
use Rattle.differ.proofs.laws.Halfway.{between_start, between-end, between-space, between_step, high-low, high-top}
use native.Mathlib.Omega.{arith}
use Rattle.differ.proofs.tell.Goals as goal

pub loop-key-init : goal.loop-key-init
loop-key-init c = between_start c.requires.0 c.requires.1 c.requires.2

pub leaf_for-x-requires : goal.leaf_for-x-requires
leaf_for-x-requires c = (c.requires.0, c.loop-key-test.true)

pub leaf_for-y-requires : goal.leaf_for-y-requires
leaf_for-y-requires c = (c.requires.1, c.loop-key-test.true)

pub overflow_sub-a : goal.overflow_sub-a
overflow_sub-a c =
    omega (
      arith,
      high-low c.requires.0 c.requires.1 c.loop-key.invariant c.leaf_for-x.result
          c.leaf_for-y.result c.leaf_for-x.ensures c.leaf_for-y.ensures c.min-high.result
          c.min-high.ensures,
    )

pub tell-found-requires : goal.tell-found-requires
tell-found-requires c = (
  c.requires.0,
  c.requires.1,
  c.leaf_for-x.ensures,
  c.leaf_for-y.ensures,
  between-space c.requires.0 c.requires.1 c.loop-key.invariant c.leaf_for-x.result
      c.leaf_for-y.result c.leaf_for-x.ensures c.leaf_for-y.ensures c.min-high.result
      c.min-high.ensures,
)

pub loop-key-smaller : goal.loop-key-smaller
loop-key-smaller c =
    omega (
      arith,
      high-low c.requires.0 c.requires.1 c.loop-key.invariant c.leaf_for-x.result
          c.leaf_for-y.result c.leaf_for-x.ensures c.leaf_for-y.ensures c.min-high.result
          c.min-high.ensures,
      high-top c.requires.0 c.requires.1 c.loop-key.invariant c.leaf_for-x.result c.leaf_for-y.result
          c.leaf_for-x.ensures c.leaf_for-y.ensures c.min-high.result c.min-high.ensures,
    )

pub loop-key-preserved : goal.loop-key-preserved
loop-key-preserved c =
    between_step c.requires.0 c.requires.1 c.loop-key.invariant c.leaf_for-x.result
    c.leaf_for-y.result c.leaf_for-x.ensures c.leaf_for-y.ensures c.min-high.result
    c.min-high.ensures _ _ c.tell-found.ensures

pub returns : goal.returns
returns c = between-end c.requires.0 c.requires.1 c.loop-key.invariant c.loop-key-test.false
