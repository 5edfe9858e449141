-- `undo_page` meets its contract. Assumes nothing.
use Rattle.model.proofs.Edition.{edition}
use native.Mathlib.Omega.{arith}
use mathlib.Core.Path.{ap, ◌∙◌}
use Rattle.model.specs.Layout.{with_page}
use Rattle.page.proofs.laws.Editions.{bytes-is}
use Rattle.store.proofs.laws.Parts.{part-page, part-back}
use Rattle.turn.proofs.laws.Touched.{unmoved}
use Rattle.turn.proofs.undo_page.Goals as goal

pub part-requires : goal.part-requires
part-requires c = (c.requires.1, c.requires.2)

pub may_move-requires : goal.may_move-requires
may_move-requires c = (rw c.part.ensures.0 c.requires.3, c.requires.0, rw c.part.ensures.0 c.requires.4)

pub returns-else-may_move : goal.returns-else-may_move
returns-else-may_move c =
    let a = c.args in
    unmoved a.l.least a.s.now a.n a.w c.requires.3
    (rw c.part.ensures.0 at (c.may_move.ensures c.if-may_move.false))

pub overflow_add-a : goal.overflow_add-a
overflow_add-a c = let p = c.requires in omega (arith, bytes-is (edition c.args.l), c.offset-a.ensures, p.1, p.2)

pub slice_bounds-undo-end : goal.slice_bounds-undo-end
slice_bounds-undo-end c = let p = c.requires in omega (arith, bytes-is (edition c.args.l), c.offset-a.ensures, p.1)

pub undo-requires : goal.undo-requires
undo-requires c =
    let a = c.args in
    rw (part-page a.l.least a.s.now a.n c.offset-a.result a.l.bytes c.offset-a.ensures
    (bytes-is (edition c.args.l))) (c.requires.3, c.requires.0)

pub returns-then-may_move : goal.returns-then-may_move
returns-then-may_move c =
    let a = c.args in
    let o = c.offset-a in
    part-back a.l.least a.s.now a.n o.result a.l.bytes c.undo.new.page o.ensures (bytes-is (edition c.args.l))
    ∙ ap (with_page a.l.least a.s.now a.n)
    (rw (part-page a.l.least a.s.now a.n o.result a.l.bytes o.ensures (bytes-is (edition c.args.l))) at
    c.undo.ensures)
