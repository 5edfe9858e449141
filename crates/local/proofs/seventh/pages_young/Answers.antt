-- `local::seventh::pages_young` meets its contract: the test of each page, read in turn. Assumes nothing.
use Prim.Native.Nat.{◌-◌}
use mathlib.Core.Path.{refl, ◌∙◌}
use borrow.Author.Rules.{rules}
use borrow.Author.Tests.{tests}
use Rattle.std.proofs.lemmas.Iterator.{YieldsList-from_range}
use Rattle.std.proofs.lemmas.Iterator.Search.{all_from_yields_List}
use Rattle.model.specs.Layout.{page_of, decode_page}
use Rattle.local.specs.Seventh.{young_ok}
use Rattle.local.proofs.laws.Loops.{pages-all}
use Rattle.local.proofs.seventh.pages_young.Goals as goal

pub returns : goal.returns
returns c =
    let a = c.args in
    all_from_yields_List (λ n. young_ok a.w (decode_page a.l.least (page_of a.l.least a.s.now n))) _ _ _
    c.all.ensures.ran (YieldsList-from_range 5 a.h.pages (a.h.pages - 5) refl refl) (λ x b q k. search (rules, tests))
    ∙ rw (c.requires.sized.is) (pages-all a.l.least a.s.now (young_ok a.w) 5 (a.h.pages - 5))
