-- `unchanged` meets its contract: what is asked of all pages is asked of those from n on. Assumes nothing.
use Prim.Native.Nat.{◌≤◌}
use mathlib.Core.Path.{◌≡◌}
use lib.ListN.{length}
use Rattle.model.specs.Layout.{decode}
use Rattle.model.specs.Calls.{unchanged}
use Rattle.release.proofs.laws.Settled.{settled_from}
use Rattle.release.proofs.unchanged.Given as goal

abbrev pub invariant-loop-n : goal.invariant-loop-n
invariant-loop-n l = (l.size ≡ length (decode l.l.least l.s).pages) × (5 ≤ l.n) × (unchanged (decode l.l.least l.s) ≡ settled_from (decode l.l.least l.s) l.n)
