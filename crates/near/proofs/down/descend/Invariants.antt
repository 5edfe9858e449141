-- `descend` meets its contract: the answer of the whole walk is that of what is left of it. Assumes nothing.
use Prim.Native.Nat.{pred, ◌<◌}
use mathlib.Core.Path.{◌≡◌}
use Rattle.near.specs.Down.{walked}
use Rattle.near.proofs.laws.Down.{descended}
use Rattle.near.proofs.down.descend.Given as goal

abbrev pub invariant-loop-level : goal.invariant-loop-level
invariant-loop-level l = (0 < l.level) × (walked l.l.least l.s l.v l.key ≡ descended l.l.least l.s l.v l.key (pred l.level) l.n)
