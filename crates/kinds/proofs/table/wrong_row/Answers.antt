-- `wrong_row` meets its contract. Assumes nothing.
use Rattle.std.proofs.Common.{◌*◌, ◌-◌, ◌/◌, length, arith, refl, sym, ◌∙◌}
use borrow.Author.Rules.{rules}
use native.Mathlib.Nat.{sub-zero}
use Rattle.model.specs.Kinds.{wrong_row}
use Rattle.kinds.proofs.laws.Laws.{row-key, wrong-here, wrong-on, wrong-end}
use Rattle.kinds.proofs.table.wrong_row.Goals as goal

pub loop-i-init : goal.loop-i-init
unfolding wrong_row
loop-i-init c = rw (sub-zero (length c.args.table.now / 4)) refl

pub returns-then-not-row_right : goal.returns-then-not-row_right
returns-then-not-row_right c =
    sym (wrong-here _ _ _ _ (omega arith) (sym c.row_right.ensures ∙ c.if-not-row_right.true)) ∙ c.loop-i.invariant

pub overflow_add-least : goal.overflow_add-least
overflow_add-least c =
    omega (arith, row-key c.args.table.now (4 * c.loop-i.i) c.loop-i.least (sym c.row_right.ensures ∙ c.if-not-row_right.false))

pub loop-i-preserved : goal.loop-i-preserved
loop-i-preserved c =
    wrong-on _ _ _ _ _ _ _ (omega arith) (omega arith) (omega arith) (sym c.row_right.ensures ∙ c.if-not-row_right.false)
    ∙ c.loop-i.invariant

pub returns-then-table-eq0 : goal.returns-then-table-eq0
returns-then-table-eq0 c =
    let t = c.args.table.now in let l = c.loop-i in
    rw (← l.invariant, wrong-end (length t / 4 - l.i) t l.i l.least (omega arith)) (search rules)

pub returns-else-table-eq0 : goal.returns-else-table-eq0
returns-else-table-eq0 c =
    let t = c.args.table.now in let l = c.loop-i in
    rw (← l.invariant, wrong-end (length t / 4 - l.i) t l.i l.least (omega arith)) (search rules)
