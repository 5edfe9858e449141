-- `reach::change::page_change` meets its contract: nothing of the first i entries starts or ends behind v and before q. Assumes nothing.
use Prim.Native.Nat.{◌≤◌, ◌<◌}
use Rattle.reach.specs.Versions.{QuietEntries}
use Rattle.reach.proofs.change.page_change.Given as goal

abbrev pub invariant-loop-i : goal.invariant-loop-i
invariant-loop-i l = (l.q ≤ l.initial.q) × (l.v < l.q) × QuietEntries l.page l.i l.v l.q
