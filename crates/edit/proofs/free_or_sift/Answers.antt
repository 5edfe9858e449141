-- `edit::free_or_sift` meets its contract: an active page is cleared, another sifted. Assumes nothing.
use Rattle.model.proofs.Edition.{edition}
use Rattle.page.proofs.laws.Exact.{free-zeros}
use Rattle.page.proofs.laws.Read.{start_of}
use Rattle.page.specs.declared.Head.{Head}
use Rattle.model.specs.Layout.{decode_page}
use Rattle.model.specs.Field.{zeros}
use borrow.Author.Tests.{eq-eqb, ne_eqb}
use mathlib.Core.Path.{ap, sym, ◌∙◌}
use Rattle.edit.proofs.free_or_sift.Goals as goal

pub returns-then-h-w : goal.returns-then-h-w
returns-then-h-w c =
    let a = c.args in let d = edition c.args.l in
    let e = start_of a.l.least a.page.now ∙ sym (ap (λ (h : Head). h.start) c.head_of-h.ensures) ∙ c.if-h-w.true in
    c.clear.ensures ∙ ap zeros c.requires.0.size ∙ sym (free-zeros a.l.least d.four d.eight)
    ∙ rw (eq-eqb (decode_page a.l.least a.page.now).start a.w e)

pub returns-else-h-w : goal.returns-else-h-w
returns-else-h-w c =
    let a = c.args in
    let e = ap (λ (h : Head). h.start) c.head_of-h.ensures ∙ sym (start_of a.l.least a.page.now) in
    c.sift.ensures
    ∙ rw (ne_eqb (decode_page a.l.least a.page.now).start a.w (λ f. c.if-h-w.false (e ∙ f)))
