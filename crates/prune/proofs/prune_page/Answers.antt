-- `prune_page` meets its contract. Assumes nothing.
use Rattle.model.proofs.Edition.{edition}
use native.Mathlib.Omega.{arith}
use mathlib.Core.Path.{ap, ◌∙◌}
use Rattle.model.specs.Layout.{with_page}
use Rattle.page.proofs.laws.Editions.{bytes-is}
use Rattle.store.proofs.laws.Parts.{part-page, part-back}
use Rattle.prune.proofs.prune_page.Goals as goal

pub overflow_add-a : goal.overflow_add-a
overflow_add-a c = omega (arith, bytes-is (edition c.args.l), c.offset-a.ensures, c.requires.0, c.requires.1)

pub slice_bounds-drop_ended-end : goal.slice_bounds-drop_ended-end
slice_bounds-drop_ended-end c = omega (arith, bytes-is (edition c.args.l), c.offset-a.ensures, c.requires.0)

pub drop_ended-requires : goal.drop_ended-requires
drop_ended-requires c =
    let a = c.args in
    rw (part-page a.l.least a.s.now a.n c.offset-a.result a.l.bytes c.offset-a.ensures
    (bytes-is (edition c.args.l))) (c.requires.2)

pub returns : goal.returns
returns c =
    let a = c.args in
    part-back a.l.least a.s.now a.n c.offset-a.result a.l.bytes c.drop_ended.new.page
    c.offset-a.ensures (bytes-is (edition c.args.l))
    ∙ ap (with_page a.l.least a.s.now a.n)
    (rw (part-page a.l.least a.s.now a.n c.offset-a.result a.l.bytes c.offset-a.ensures
    (bytes-is (edition c.args.l))) at c.drop_ended.ensures)
