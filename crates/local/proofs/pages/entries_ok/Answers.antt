-- `local::pages::entries_ok` meets its contract: the test of each entry, read in turn. Assumes nothing.
use mathlib.Core.Path.{refl, ◌∙◌}
use native.Mathlib.Omega.{arith}
use borrow.Author.Rules.{rules}
use borrow.Author.Tests.{tests}
use Rattle.std.proofs.lemmas.Iterator.{YieldsList-from_range}
use Rattle.std.proofs.lemmas.Iterator.Search.{all_from_yields_List}
use Rattle.local.specs.Local.{entry_test}
use Rattle.local.proofs.laws.Pages.{entries-ok-all}
use Rattle.local.proofs.pages.entries_ok.Goals as goal

pub returns : goal.returns
returns c =
    let a = c.args in
    all_from_yields_List (entry_test a.last a.size a.level a.page.now a.n) _ _ _ c.all.ensures.ran
    (YieldsList-from_range 0 a.n a.n refl (omega arith)) (λ x b q k. search (rules, tests))
    ∙ entries-ok-all a.last a.size a.level a.page.now a.n
