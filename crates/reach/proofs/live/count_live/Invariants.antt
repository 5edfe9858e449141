-- `reach::live::count_live` meets its contract: those counted and those from k on are all. Assumes nothing.
use Prim.Native.Nat.{◌≤◌, ◌<◌, ◌-◌, ◌+◌, ◌*◌}
use mathlib.Core.Path.{◌≡◌}
use mathlib.Core.List.{◌∷◌}
use lib.ListN.{length}
use Rattle.reach.specs.Pending.{pairs_from}
use Rattle.model.specs.Layout.{read_entry}
use Rattle.model.specs.Entry.{pair_of}
use Rattle.reach.proofs.live.count_live.Given as goal

abbrev pub invariant-loop-k : goal.invariant-loop-k
invariant-loop-k l = (l.k ≤ l.n) × (l.c ≤ l.k) × (length (pairs_from l.page l.v 0 l.n) ≡ l.c + length (pairs_from l.page l.v l.k l.n))
    × (l.k < l.n → pairs_from l.page l.v l.k l.n ≡ pair_of (read_entry l.page (128 + 96 * l.k)) ∷ pairs_from l.page l.v (l.k + 1) l.n)

abbrev pub decreases-loop-k : goal.decreases-loop-k
decreases-loop-k l = l.n - l.k
