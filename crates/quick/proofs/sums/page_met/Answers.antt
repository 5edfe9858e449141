use Rattle.model.proofs.Edition.{edition}
use Rattle.quick.proofs.laws.Sums.{met_by}
use Rattle.notes.proofs.laws.Here.{front-is}
use Rattle.model.specs.Layout.{page_of}
use borrow.Author.Tests.{eq-eqb, ne_eqb}
use mathlib.Core.Path.{sym, ◌∙◌}
use Rattle.quick.proofs.sums.page_met.Goals as goal

pub returns-then-h-eq0 : goal.returns-then-h-eq0
returns-then-h-eq0 c =
    let a = c.args in let z = eq-eqb c.head_of-h.result.level 0 c.if-h-eq0.true in
    z ∙ sym (met_by a.l.least a.old (page_of a.l.least a.s.now a.n) c.head_of-h.result
    (front-is (edition c.args.l) a.s.now c.requires.0.linked a.n c.requires.1 c.part.result.now
    c.part.ensures c.head_of-h.result c.head_of-h.ensures) a.sum ∙ rw z)

pub returns-else-h-eq0 : goal.returns-else-h-eq0
returns-else-h-eq0 c =
    let a = c.args in
    sym (met_by a.l.least a.old (page_of a.l.least a.s.now a.n) c.head_of-h.result
    (front-is (edition c.args.l) a.s.now c.requires.0.linked a.n c.requires.1 c.part.result.now
    c.part.ensures c.head_of-h.result c.head_of-h.ensures) a.sum
    ∙ rw (ne_eqb c.head_of-h.result.level 0 c.if-h-eq0.false, ← c.span_from.ensures))
