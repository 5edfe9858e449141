-- `store::part` meets its contract: what is lent is the page. Assumes nothing.
use Rattle.model.proofs.Edition.{edition}
use Rattle.store.proofs.laws.Parts.{part-page, length-page}
use Rattle.page.proofs.laws.Editions.{bytes-is}
use lib.ListN.{length}
use mathlib.Core.Path.{ap, ◌∙◌}
use Rattle.store.proofs.part.Goals as goal

pub returns : goal.returns
returns c =
    let a = c.args in
    let e = part-page a.l.least a.s.now a.n c.offset-a.result a.l.bytes c.offset-a.ensures
    (bytes-is (edition c.args.l)) in
    (e, ap length e ∙ length-page a.l.least a.s.now a.n c.requires.0)
