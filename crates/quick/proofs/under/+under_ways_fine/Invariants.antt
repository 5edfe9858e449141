-- `under` and `ways_fine` meet their contracts, by what is left: `under` hands on one less than it was given, and no call of `under` has
-- more than `ways_fine`. Assumes nothing.
use Prim.Native.Nat.{◌≤◌, ◌-◌, ◌+◌, ◌*◌}
use mathlib.Core.Path.{◌≡◌}
use Rattle.model.specs.Layout.{decode, read_entries}
use Rattle.spans.specs.Quick.{under as under_of, lasts}
use Rattle.quick.specs.Routers.{entries_at}
use Rattle.quick.proofs.under.+under_ways_fine.Given as goal

-- twice what is left, and one more for a page whose routers are gone through
abbrev pub decreases-under : goal.decreases-under
decreases-under l = 2 * l.left

abbrev pub decreases-ways_fine : goal.decreases-ways_fine
decreases-ways_fine l = 2 * l.left + 1

abbrev pub invariant-ways_fine-loop-i : goal.invariant-ways_fine-loop-i
invariant-ways_fine-loop-i l =
    (l.rest ≤ l.left)
    × (lasts (under_of l.up (decode l.l.least l.s).pages l.h) l.h l.a l.b (entries_at l.l.least l.s l.n)
    ≡ lasts (under_of l.up (decode l.l.least l.s).pages l.h) l.h l.a l.b (read_entries l.p (128 + 96 * l.i) (l.count - l.i)))
