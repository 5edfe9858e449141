-- `leaf_for` meets its contract. Assumes nothing.
use Prim.Native.Nat.{◌-◌}
use mathlib.Core.Path.{◌≡◌}
use Rattle.model.specs.Layout.{decode}
use Rattle.model.specs.Walk.{root_at, way, leaf_of}
use Rattle.walk.proofs.laws.Down.{leaf_down}
use Rattle.walk.specs.Covers.{Covers}
use Rattle.walk.proofs.leaf_for.Given as goal

abbrev pub invariant-loop : goal.invariant-loop
invariant-loop l = Covers l.l.least l.v (decode l.l.least l.s).pages (l.up - l.counter) l.n l.key
    × (leaf_of (root_at (decode l.l.least l.s).slots l.v) (way (decode l.l.least l.s) l.v l.key) ≡ leaf_down (l.up - l.counter) (decode l.l.least l.s).pages l.v l.key l.n)
