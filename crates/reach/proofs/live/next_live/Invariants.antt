-- `reach::live::next_live` meets its contract: no entry from i up to k is alive. Assumes nothing.
use mathlib.Core.Path.{◌≡◌}
use Rattle.reach.specs.Pending.{pairs_from}
use Rattle.reach.proofs.live.next_live.Given as goal

abbrev pub invariant-loop-k : goal.invariant-loop-k
invariant-loop-k l = pairs_from l.page l.v l.i l.n ≡ pairs_from l.page l.v l.k l.n
