-- `local::third::links_ok` meets its contract: a free page, or the test of each entry, read in turn. Assumes nothing.
use Prim.Native.Nat.{◌+◌, ◌*◌}
use mathlib.Core.Path.{◌≡◌, refl, ◌∙◌}
use native.Mathlib.Omega.{arith}
use borrow.Author.Rules.{rules}
use borrow.Author.Tests.{tests}
use Rattle.std.proofs.lemmas.Iterator.{YieldsList-from_range}
use Rattle.std.proofs.lemmas.Iterator.Search.{all_from_yields_List}
use Rattle.model.specs.Basic.{all}
use Rattle.model.specs.Layout.{page_of, decode_page, decode, read_entry, read_entries}
use Rattle.local.specs.Local.{link_ok}
use Rattle.local.proofs.laws.Loops.{entries-all}
use Rattle.local.proofs.laws.Third.{links-is}
use Rattle.local.proofs.third.links_ok.Goals as goal

pub returns-then-h-eq0 : goal.returns-then-h-eq0
returns-then-h-eq0 c =
    let a = c.args in rw (links-is a.l.least a.s.now a.n c.part-p.result.now c.part-p.ensures.0 c.head_of-h.result c.head_of-h.ensures) (search rules)

pub returns-else-h-eq0 : goal.returns-else-h-eq0
returns-else-h-eq0 c =
    let a = c.args in
    let f = link_ok (decode a.l.least a.s.now) (decode_page a.l.least (page_of a.l.least a.s.now a.n)) in
    let n = c.head_of-h.result.count in
    let k : c.all.result ≡ all f (read_entries c.part-p.result.now 128 n) =
    all_from_yields_List (λ i. f (read_entry c.part-p.result.now (128 + 96 * i))) _ _ _ c.all.ensures.ran
    (YieldsList-from_range 0 n n refl (omega arith)) (λ x b q k. search (rules, tests))
    ∙ entries-all f c.part-p.result.now n in
    rw (links-is a.l.least a.s.now a.n c.part-p.result.now c.part-p.ensures.0 c.head_of-h.result c.head_of-h.ensures) (search rules)
