use Rattle.quick.specs.Sums.{all_met}
use Rattle.model.specs.Layout.{read_pages, decode, size_of}
use Prim.Native.Nat.{◌-◌}
use lib.ListN.{drop}
use mathlib.Core.Path.{◌≡◌}
use Rattle.quick.proofs.sums.all_met.Given as goal

abbrev pub invariant-loop-n : goal.invariant-loop-n
invariant-loop-n l = (l.size ≡ size_of l.l.least l.s)
    × (all_met l.old l.sums 5 (drop 5 (decode l.l.least l.s).pages) ≡ all_met l.old l.sums l.n (read_pages l.l.least l.s l.n (l.size - l.n)))
