-- `first_from` meets its contract. Assumes nothing.
use Rattle.cursor.specs.First.{at_or_above, leads}
use Rattle.model.specs.Walk.{settings, key_limit}
use Rattle.model.specs.Layout.{decode}
use mathlib.Core.Path.{◌≡◌}
use Prim.Native.Nat.{◌-◌}
use Rattle.cursor.proofs.first_from.Given as goal

abbrev pub invariant-loop-key : goal.invariant-loop-key
invariant-loop-key l = leads (at_or_above l.low (settings (decode l.l.least l.s) l.v)) ≡ leads (at_or_above l.key (settings (decode l.l.least l.s) l.v))

abbrev pub decreases-loop-key : goal.decreases-loop-key
decreases-loop-key l = key_limit - l.key
