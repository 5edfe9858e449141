-- The whole's answer is that of the entries from place k on. Assumes nothing.
use Prim.Native.Nat.{◌≤◌, ◌-◌, ◌+◌, ◌*◌}
use mathlib.Core.Path.{◌≡◌}
use Rattle.model.specs.Layout.{decode, read_entries}
use Rattle.spans.specs.Quick.{nexts}
use Rattle.quick.specs.Under.{under_page}
use Rattle.quick.proofs.routers.nexts_fine.Given as goal

abbrev pub invariant-loop-k : goal.invariant-loop-k
invariant-loop-k l = (l.rest ≤ l.left) × (l.a ≤ l.t)
    × (nexts (under_page l.up (decode l.l.least l.s).pages l.m) l.a l.b (read_entries l.p (128 + 96 * l.i) (l.n - l.i))
    ≡ nexts (under_page l.up (decode l.l.least l.s).pages l.m) l.t l.b (read_entries l.p (128 + 96 * l.k) (l.n - l.k)))
