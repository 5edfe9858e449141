-- `leaf_for` meets its contract. Assumes nothing.
use Rattle.cursor.specs.Leaf.{Below}
use Rattle.cursor.proofs.leaf_for.Given as goal

abbrev pub invariant-loop-up : goal.invariant-loop-up
invariant-loop-up l = Below l.l l.s l.v l.up l.key l.u
