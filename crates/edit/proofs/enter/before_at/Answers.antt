-- `edit::enter::before_at` meets its contract: by the first word, and for one of the same key by the second too. Assumes nothing.
use Prim.Native.Nat.{◌+◌, ◌*◌}
use mathlib.Core.Path.{refl, sym}
use native.Mathlib.Omega.{arith}
use Rattle.bits.proofs.laws.Laws.{field_lt}
use Rattle.edit.proofs.laws.Whole.{before-no, before-yes, before_same}
use Rattle.edit.proofs.enter.before_at.Goals as goal

pub returns-then-a-k : goal.returns-then-a-k
returns-then-a-k c =
    let a = c.args in
    sym (before-no a.page.now (128 + 96 * a.i) c.first_word-a.result a.key a.start a.key
    c.first_word-a.ensures refl (omega (arith, c.if-a-k.true)))

pub returns-then-k-a : goal.returns-then-k-a
returns-then-k-a c =
    let a = c.args in
    sym (before-yes a.page.now (128 + 96 * a.i) c.first_word-a.result a.key a.start a.key
    c.first_word-a.ensures refl (omega (arith, c.if-k-a.true)))

pub overflow_add-result-else-k-a : goal.overflow_add-result-else-k-a
overflow_add-result-else-k-a c =
    let a = c.args in
    omega (arith, c.second_word.ensures, field_lt a.page.now (128 + 96 * a.i + 32) 32)

pub returns-else-k-a : goal.returns-else-k-a
returns-else-k-a c =
    let a = c.args in
    before_same a.page.now (128 + 96 * a.i) c.first_word-a.result a.key a.start a.key
    c.first_word-a.ensures refl c.second_word.result a.start
    c.second_word.ensures refl (omega (arith, c.if-a-k.false))
    (omega (arith, c.if-k-a.false))
