-- `page_settled` meets its contract. Assumes nothing.
use mathlib.Core.Path.{ap, sym, ◌∙◌}
use borrow.Author.Tests.{ne_eqb}
use Rattle.page.specs.declared.Head.{Head}
use Rattle.store.proofs.laws.Sure.{few, part_in}
use Rattle.release.proofs.laws.Places.{level-is, no-leaf, a-leaf}
use Rattle.release.proofs.page_settled.Goals as goal

pub part-requires : goal.part-requires
part-requires c =
    let o = c.requires.0 in
    let b = c.args.s.now in
    (part_in o.edition b o.sound c.args.n c.requires.2, few o.edition b o.sound)

pub returns-then-h-ne1 : goal.returns-then-h-ne1
returns-then-h-ne1 c =
    let a = c.args in
    let p = c.requires in
    let h = rw c.part.ensures.0 at c.head_of-h.ensures in
    rw (ne_eqb _ _ c.if-h-ne1.true)
    (no-leaf a.l.least a.s.now a.n p.1 p.2 (λ e. c.if-h-ne1.true (ap (λ (x : Head). x.level) h ∙ e)))

pub leaf_settled-requires : goal.leaf_settled-requires
leaf_settled-requires c =
    let a = c.args in
    let p = c.requires in
    let h = rw c.part.ensures.0 at c.head_of-h.ensures in
    (p.0, level-is a.l.least a.s.now a.n p.1 p.2 ∙ sym (ap (λ (x : Head). x.level) h) ∙ c.if-h-ne1.false)

pub returns-else-h-ne1 : goal.returns-else-h-ne1
returns-else-h-ne1 c =
    let a = c.args in
    let p = c.requires in
    let h = rw c.part.ensures.0 at c.head_of-h.ensures in
    c.leaf_settled.ensures
    ∙ a-leaf a.l.least a.s.now a.n p.1 p.2
    (level-is a.l.least a.s.now a.n p.1 p.2 ∙ sym (ap (λ (x : Head). x.level) h) ∙ c.if-h-ne1.false)
