-- `gather::test::has_enough` meets its contract: the wanted list is as long as what is counted and what is left of the entries. Assumes
-- nothing.
use Prim.Native.Nat.{◌≤◌, ◌+◌}
use mathlib.Core.Path.{◌≡◌}
use lib.ListN.{length}
use Rattle.edit.specs.Change.{change_of}
use Rattle.gather.specs.Kept.{kept_pairs}
use Rattle.gather.proofs.laws.Kept.{rest}
use Rattle.gather.proofs.test.has_enough.Given as goal

abbrev pub invariant-loop-i : goal.invariant-loop-i
invariant-loop-i l = (l.n ≤ l.i + 2)
    × (l.c.takes + length (kept_pairs l.w (change_of l.c) (rest l.page 0 l.i-end))
    ≡ l.n + length (kept_pairs l.w (change_of l.c) (rest l.page l.i l.i-end)))
