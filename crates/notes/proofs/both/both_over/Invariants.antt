-- `notes::both::both_over` meets its contract: rules 4 and 5 are what holds from v on. Assumes nothing.
use Prim.Native.Nat.{◌≤◌, ◌-◌}
use mathlib.Core.Path.{◌≡◌}
use mathlib.Core.Bool.{◌&&◌}
use Rattle.model.specs.Layout.{decode}
use Rattle.model.specs.Sound.{rule4, rule5}
use Rattle.notes.specs.Kept.{Kept}
use Rattle.notes.proofs.laws.Both.{both_at}
use Rattle.notes.proofs.both.both_over.Given as goal

abbrev pub invariant-loop-v : goal.invariant-loop-v
invariant-loop-v l = (l.v ≤ l.end) × (l.h.oldest ≤ l.v) × Kept l.l.least (decode l.l.least l.s).pages l.v l.notes
    × ((rule4 (decode l.l.least l.s) && rule5 l.l.least (decode l.l.least l.s)) ≡ both_at l.l.least (decode l.l.least l.s) l.v l.end)

abbrev pub decreases-loop-v : goal.decreases-loop-v
decreases-loop-v l = l.end - l.v
