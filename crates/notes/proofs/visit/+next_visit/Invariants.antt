use mathlib.Core.Path.{◌≡◌}
use mathlib.Core.Bool.{true}
use Rattle.model.specs.Layout.{decode, read_entries}
use Rattle.notes.specs.Notes.{note_at, row}
use Rattle.notes.specs.Kept.{Kept, kids_at}
use Prim.Native.Nat.{◌≤◌, ◌+◌, ◌*◌, ◌-◌}
use Rattle.notes.proofs.visit.+next_visit.Given as goal

-- twice the levels below, and one more for a page whose entries are gone through
abbrev pub decreases-next : goal.decreases-next
decreases-next l = 2 * l.up

abbrev pub decreases-visit : goal.decreases-visit
decreases-visit l = 2 * l.up + 1

abbrev pub invariant-visit-loop-i : goal.invariant-visit-loop-i
invariant-visit-loop-i l =
    (l.x.keys ≡ true) × (l.x.live ≤ l.i) × Kept l.l.least (decode l.l.least l.s).pages l.v l.notes
    × (note_at l.l.least l.up (decode l.l.least l.s).pages l.v l.n
    ≡ row l.l.least l.up l.v (kids_at l.l.least l.up (decode l.l.least l.s).pages l.v) l.x (read_entries l.p (128 + 96 * l.i) (l.i-end - l.i)))
