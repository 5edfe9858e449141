-- `page::words::may_turn` meets its contract: what the second word rules out. Assumes nothing.
use Prim.Native.Nat.{◌+◌, ◌*◌}
use native.Mathlib.Omega.{arith}
use mathlib.Core.Path.{refl, sym, ◌∙◌}
use mathlib.Core.Logic.{inl, inr}
use borrow.Author.Tests.{clash, eq-eqb, ltb-false}
use Rattle.bits.proofs.laws.Laws.{field_lt}
use Rattle.page.proofs.laws.Whole.{apart}
use Rattle.page.proofs.words.may_turn.Goals as goal

pub overflow_add-b : goal.overflow_add-b
overflow_add-b c =
    let a = c.args in
    omega (arith, c.second_word-b.ensures, field_lt a.page.now (128 + 96 * a.i + 32) 32)

pub returns-then-b-v-eq0 : goal.returns-then-b-v-eq0
returns-then-b-v-eq0 c = λ h. absurd (clash (sym h ∙ eq-eqb _ _ c.if-b-v-eq0.true))

pub returns-else-low-b : goal.returns-else-low-b
returns-else-low-b c =
    λ h.
    let a = c.args in
    let b = c.second_word-b in
    apart a.page.now (128 + 96 * a.i) a.w b.result a.w b.ensures refl c.requires.2
    c.if-b-v-eq0.false (inl c.if-low-b.false)

pub returns-then-low-b : goal.returns-then-low-b
returns-then-low-b c =
    λ h.
    let a = c.args in
    let b = c.second_word-b in
    apart a.page.now (128 + 96 * a.i) a.w b.result a.w b.ensures refl c.requires.2
    c.if-b-v-eq0.false (inr (ltb-false _ _ h))
