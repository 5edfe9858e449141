-- `value_at` meets its contract: the value of all items is that of the items left. Assumes nothing.
use mathlib.Core.Option.{some}
use mathlib.Core.Path.{ap, sym, ◌∙◌}
use Rattle.model.specs.declared.Entry.{Entry}
use Rattle.plain.specs.Plain.{value_at}
use Rattle.plain.proofs.laws.Items.{from_end, value-here, value_on}
use Rattle.plain.proofs.items.value_at.Goals as goal

pub returns-then-says : goal.returns-then-says
returns-then-says c =
    let l = c.loop-i in
    let a = c.args in
    let e = sym c.says.ensures ∙ c.if-says.true in
    let x = c.item-e.ensures in
    ap (λ (y : Entry). some y.value) x ∙ sym (l.invariant ∙ value-here a.key a.v a.items.now l.i a.n c.loop-i-test.true (rw x at e))

pub loop-i-preserved : goal.loop-i-preserved
loop-i-preserved c =
    let l = c.loop-i in
    let a = c.args in
    let e = sym c.says.ensures ∙ c.if-says.false in
    let x = c.item-e.ensures in
    l.invariant ∙ value_on a.key a.v a.items.now l.i a.n c.loop-i-test.true (rw x at e)

pub returns : goal.returns
returns c = sym (c.loop-i.invariant ∙ ap (value_at _ _) (from_end _ _ _ c.loop-i-test.false))
