-- `local::pages::pages_ok` meets its contract: the test of each page, read in turn. Assumes nothing.
use Prim.Native.Nat.{◌-◌}
use mathlib.Core.Path.{refl, ◌∙◌}
use borrow.Author.Rules.{rules}
use borrow.Author.Tests.{tests}
use Rattle.std.proofs.lemmas.Iterator.{YieldsList-from_range}
use Rattle.std.proofs.lemmas.Iterator.Search.{all_from_yields_List}
use Rattle.local.proofs.laws.Pages.{page_test, pages-fine-all}
use Rattle.local.proofs.pages.pages_ok.Goals as goal

pub returns : goal.returns
returns c =
    let a = c.args in
    all_from_yields_List (page_test a.l.least a.last a.size a.s.now) _ _ _ c.all.ensures.ran
    (YieldsList-from_range 5 a.size (a.size - 5) refl refl) (λ x b q k. search (rules, tests))
    ∙ pages-fine-all a.l.least a.last a.size a.s.now 5 (a.size - 5)
