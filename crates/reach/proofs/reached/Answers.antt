-- `reach::reached` meets its contract: the test of each page, read in turn. Assumes nothing.
use Prim.Native.Nat.{◌-◌}
use mathlib.Core.Path.{refl, ◌∙◌}
use borrow.Author.Rules.{rules}
use borrow.Author.Tests.{tests}
use Rattle.std.proofs.lemmas.Iterator.{YieldsList-from_range}
use Rattle.std.proofs.lemmas.Iterator.Search.{all_from_yields_List}
use Rattle.reach.proofs.laws.Marked.{mark_test, marked-all}
use Rattle.reach.proofs.reached.Goals as goal

pub returns : goal.returns
returns c =
    let a = c.args in
    all_from_yields_List (mark_test a.l.least a.s.now a.v a.marks.now) _ _ _ c.all.ensures.ran
    (YieldsList-from_range 5 a.h.pages (a.h.pages - 5) refl refl) (λ x b q k. search (rules, tests))
    ∙ rw c.requires.sized.is (marked-all a.l.least a.s.now a.v a.marks.now 5 (a.h.pages - 5))
