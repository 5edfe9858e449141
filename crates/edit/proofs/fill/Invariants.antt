-- `edit::fill` meets its contract: after k turns the first k pairs stand in a page of zeros. Assumes nothing.
use Prim.Native.Nat.{◌*◌}
use mathlib.Core.Path.{◌≡◌}
use lib.ListN.{length, drop}
use Rattle.edit.proofs.laws.Fill.{filling}
use Rattle.edit.proofs.fill.Given as goal

abbrev pub invariant-loop-k : goal.invariant-loop-k
invariant-loop-k l = (length l.page ≡ 64 * l.l.least) × (l.page ≡ filling l.l.least l.w (drop l.from l.list) l.k)
