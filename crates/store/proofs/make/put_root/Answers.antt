-- `store::make::put_root` meets its contract: what is lent is page 5, and it comes back in its place. Assumes nothing.
use Rattle.model.proofs.Edition.{edition}
use Rattle.store.proofs.laws.Parts.{part-page, part-back}
use Rattle.page.proofs.laws.Editions.{bytes-is}
use Rattle.model.specs.Layout.{with_page}
use mathlib.Core.Path.{ap, ◌∙◌}
use Rattle.store.proofs.make.put_root.Goals as goal

pub returns : goal.returns
returns c =
    let a = c.args in let d = edition c.args.l in
    part-back a.l.least a.s.now 5 c.offset-a.result a.l.bytes c.put_head.new.page
    c.offset-a.ensures (bytes-is d)
    ∙ ap (with_page a.l.least a.s.now 5)
    (rw (part-page a.l.least a.s.now 5 c.offset-a.result a.l.bytes c.offset-a.ensures (bytes-is d)) at
    c.put_head.ensures)
