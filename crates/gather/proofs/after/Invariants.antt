-- `gather::after` meets its contract: those counted and those that stay of what is left are all. Assumes nothing.
use Prim.Native.Nat.{◌≤◌, ◌+◌}
use mathlib.Core.Path.{◌≡◌}
use Rattle.edit.specs.Change.{change_of}
use Rattle.gather.proofs.laws.Kept.{staying, rest}
use Rattle.gather.proofs.after.Given as goal

abbrev pub invariant-loop-i : goal.invariant-loop-i
invariant-loop-i l = (l.n ≤ l.i)
    × (staying l.w (change_of l.c) (rest l.page 0 l.i-end) ≡ l.n + staying l.w (change_of l.c) (rest l.page l.i l.i-end))
