-- `gather::kept_pairs` meets its contract: the pairs listed and those kept of what is left are all. Assumes nothing.
use Prim.Native.Nat.{◌≤◌}
use mathlib.Core.Path.{◌≡◌}
use mathlib.Core.List.{◌++◌}
use Rattle.edit.specs.Change.{change_of}
use Rattle.gather.specs.Gather.{Good, pairs_in}
use Rattle.gather.specs.Kept.{kept_pairs}
use Rattle.gather.proofs.laws.Gather.{so_far}
use Rattle.gather.proofs.laws.Kept.{rest}
use Rattle.gather.proofs.kept_pairs.Given as goal

abbrev pub invariant-loop-i : goal.invariant-loop-i
invariant-loop-i l = Good (so_far l.list l.n) × (l.n ≤ l.i)
    × (kept_pairs l.w (change_of l.c) (rest l.page 0 l.i-end)
    ≡ pairs_in (so_far l.list l.n) ++ kept_pairs l.w (change_of l.c) (rest l.page l.i l.i-end))
