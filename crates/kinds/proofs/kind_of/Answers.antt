-- `kind_of` meets its contract. Assumes nothing.
use Rattle.std.proofs.Common.{◌/◌, length, arith, refl, sym, ◌∙◌}
use borrow.Author.Tests.{eq-eqb, ne_eqb}
use native.Mathlib.Nat.{sub-zero}
use Rattle.model.specs.Kinds.{known_in}
use Rattle.kinds.proofs.laws.Laws.{here, further, over}
use Rattle.kinds.proofs.kind_of.Goals as goal

pub loop-i-init : goal.loop-i-init
unfolding known_in
loop-i-init c = rw (sub-zero (length c.args.table.now / 4)) refl

pub returns-then-table-at : goal.returns-then-table-at
returns-then-table-at c =
    c.row_kind.ensures ∙ sym (here _ _ _ _ (omega arith) (eq-eqb _ _ c.if-table-at.true)) ∙ c.loop-i.invariant

pub loop-i-preserved : goal.loop-i-preserved
loop-i-preserved c =
    further _ _ _ _ _ _ (omega arith) (omega arith) (ne_eqb _ _ c.if-table-at.false) ∙ c.loop-i.invariant

pub returns : goal.returns
returns c = sym (over _ _ _ _ (omega arith)) ∙ c.loop-i.invariant
