-- `own_router` meets its contract: from the place of the key back to the first router alive. Assumes nothing.
use Prim.Native.Nat.{ℕ, ◌≤◌, ◌<◌}
use mathlib.Core.Bool.{false}
use mathlib.Core.Path.{◌≡◌}
use Rattle.model.specs.Entry.{live_at}
use Rattle.walk.specs.Scan.{entry}
use Rattle.walk.proofs.laws.Places.{last_alive}
use Rattle.walk.proofs.search.own_router.Given as goal

abbrev pub invariant-loop-i : goal.invariant-loop-i
invariant-loop-i l = (last_alive l.page l.v l.next ≡ last_alive l.page l.v l.i)
    × ((j : ℕ) → l.i ≤ j → j < l.next → live_at l.v (entry l.page j) ≡ false)
