-- What is to be asked are the pages under level k. Assumes nothing.
use Prim.Native.Nat.{◌≤◌, ◌-◌}
use mathlib.Core.Bool.{◌&&◌}
use mathlib.Core.Path.{◌≡◌}
use Rattle.model.specs.Basic.{all, in_order}
use Rattle.model.specs.Page.{Page}
use Rattle.model.specs.Sound.{pages_pass}
use Rattle.model.specs.Layout.{read_pages, decode, size_of}
use Rattle.spans.specs.Quick.{kept, apart, children_fine}
use Rattle.quick.proofs.laws.Pages.{below_level}
use Rattle.quick.proofs.pages.pages_fine.Given as goal

abbrev pub invariant-loop-k : goal.invariant-loop-k
invariant-loop-k l = (1 ≤ l.k) × (l.rest ≤ l.left)
    × (pages_pass
    (λ (p : Page). in_order apart (kept l.old p.entries)
    && children_fine l.l.least l.old (decode l.l.least l.s).pages p.level (kept l.old p.entries)) (decode l.l.least l.s)
    ≡ all (below_level l.k l.l.least l.old (decode l.l.least l.s).pages) (read_pages l.l.least l.s 5 (size_of l.l.least l.s - 5)))
