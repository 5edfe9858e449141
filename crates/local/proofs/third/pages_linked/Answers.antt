-- `local::third::pages_linked` meets its contract: the test of each page, read in turn. Assumes nothing.
use Prim.Native.Nat.{◌-◌}
use mathlib.Core.Path.{refl, ◌∙◌}
use borrow.Author.Rules.{rules}
use borrow.Author.Tests.{tests}
use Rattle.std.proofs.lemmas.Iterator.{YieldsList-from_range}
use Rattle.std.proofs.lemmas.Iterator.Search.{all_from_yields_List}
use Rattle.model.specs.Layout.{page_of, decode_page, decode}
use Rattle.local.specs.Local.{links_ok}
use Rattle.local.proofs.laws.Loops.{pages-all}
use Rattle.local.proofs.third.pages_linked.Goals as goal

pub returns : goal.returns
returns c =
    let a = c.args in
    all_from_yields_List (λ n. links_ok (decode a.l.least a.s.now) (decode_page a.l.least (page_of a.l.least a.s.now n))) _ _ _
    c.all.ensures.ran (YieldsList-from_range 5 a.h.pages (a.h.pages - 5) refl refl) (λ x b q k. search (rules, tests))
    ∙ rw (c.requires.sized.is) (pages-all a.l.least a.s.now (links_ok (decode a.l.least a.s.now)) 5 (a.h.pages - 5))
