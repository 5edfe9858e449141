-- `entries_settled` meets its contract: what is asked of all entries is asked of those from place i on. Assumes nothing.
use Prim.Native.Nat.{◌≤◌}
use mathlib.Core.Path.{◌≡◌}
use Rattle.model.specs.Basic.{all}
use Rattle.model.specs.Store.{page}
use Rattle.model.specs.Layout.{decode}
use Rattle.walk.specs.Scan.{from}
use Rattle.release.specs.Settled.{settled}
use Rattle.release.proofs.entries_settled.Given as goal

abbrev pub invariant-loop-i : goal.invariant-loop-i
invariant-loop-i l = (l.i ≤ l.count) ×
    (all (settled (decode l.l.least l.s)) (page (decode l.l.least l.s).pages l.n).entries
    ≡ all (settled (decode l.l.least l.s)) (from l.p l.i l.count))
