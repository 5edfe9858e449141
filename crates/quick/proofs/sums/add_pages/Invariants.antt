use Rattle.quick.specs.Sums.{Sums, add_pages}
use Rattle.model.specs.Layout.{decode, read_pages, size_of}
use lib.ListN.{drop}
use Prim.Native.Nat.{◌+◌, ◌*◌, ◌-◌}
use mathlib.Core.Path.{◌≡◌}
use Rattle.quick.proofs.sums.add_pages.Given as goal

abbrev pub invariant-loop-n : goal.invariant-loop-n
invariant-loop-n l = (l.size ≡ size_of l.l.least l.s) × Sums (512 + 40 * l.n) l.sums
    × (add_pages l.old l.initial.sums (drop 5 (decode l.l.least l.s).pages) ≡ add_pages l.old l.sums (read_pages l.l.least l.s l.n (l.size - l.n)))
