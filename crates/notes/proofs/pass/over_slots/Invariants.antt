use Prim.Native.Nat.{◌≤◌, ◌-◌}
use mathlib.Core.Path.{◌≡◌}
use mathlib.Core.Bool.{◌&&◌}
use Rattle.model.specs.Basic.{all, count}
use Rattle.model.specs.Layout.{decode}
use Rattle.model.specs.Sound.{versions}
use Rattle.notes.specs.Kept.{Kept}
use Rattle.notes.proofs.laws.Versions.{keys_at, full_at}
use Rattle.notes.proofs.pass.over_slots.Given as goal

abbrev pub invariant-loop-v : goal.invariant-loop-v
invariant-loop-v l = (l.v ≤ l.end) × (count l.h.oldest (l.end - l.h.oldest) ≡ versions (decode l.l.least l.s))
    × Kept l.l.least (decode l.l.least l.s).pages l.v l.notes
    × (all (keys_at l.l.least (decode l.l.least l.s)) (count l.h.oldest (l.end - l.h.oldest))
    ≡ all (keys_at l.l.least (decode l.l.least l.s)) (count l.v (l.end - l.v)))
    × (all (full_at l.l.least (decode l.l.least l.s)) (count l.h.oldest (l.end - l.h.oldest))
    ≡ (l.full && all (full_at l.l.least (decode l.l.least l.s)) (count l.v (l.end - l.v))))
    × (l.h.oldest ≤ l.v)

abbrev pub decreases-loop-v : goal.decreases-loop-v
decreases-loop-v l = l.end - l.v
