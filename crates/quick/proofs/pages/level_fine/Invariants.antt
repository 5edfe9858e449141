-- The whole's answer is that of the pages from n on. Assumes nothing.
use Prim.Native.Nat.{◌≤◌, ◌-◌}
use mathlib.Core.Path.{◌≡◌}
use Rattle.model.specs.Basic.{all}
use Rattle.model.specs.Layout.{read_pages, decode, size_of}
use Rattle.quick.specs.Pages.{at_level}
use Rattle.quick.proofs.pages.level_fine.Given as goal

abbrev pub invariant-loop-n : goal.invariant-loop-n
invariant-loop-n l = (l.rest ≤ l.left)
    × (all (at_level l.k l.l.least l.old (decode l.l.least l.s).pages) (read_pages l.l.least l.s 5 (size_of l.l.least l.s - 5))
    ≡ all (at_level l.k l.l.least l.old (decode l.l.least l.s).pages) (read_pages l.l.least l.s l.n (l.size - l.n)))
