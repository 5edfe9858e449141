-- `page::words::alive_in` meets its contract: its start and then its end are compared as one number. Assumes nothing.
use Prim.Native.Nat.{◌+◌, ◌*◌}
use mathlib.Core.Path.{◌≡◌, refl, ◌∙◌}
use native.Mathlib.Omega.{arith}
use borrow.Author.Tests.{le-ltb}
use Rattle.model.specs.Field.{field}
use Rattle.bits.proofs.laws.Laws.{field-bytes, field_lt}
use Rattle.page.proofs.laws.Whole.{not_yet, by_end}
use Rattle.page.proofs.words.alive_in.Goals as goal
use Rattle.page.proofs.words.alive_in.Goals.{After-second_word-b}

-- the byte that ends its first word
byte : (c : After-second_word-b) → let a = c.args in c.one-a.result ≡ field a.page.now (128 + 96 * a.i + 24) 8
byte c =
    let a = c.args in
    c.one-a.ensures ∙ field-bytes a.page.now (19 + 12 * a.i) (128 + 96 * a.i + 24) 8 (omega arith)

pub overflow_add-a : goal.overflow_add-a
overflow_add-a c =
    let a = c.args in
    omega (
      arith,
      byte (goal.at.overflow_add-a c).After-second_word-b,
      field_lt a.page.now (128 + 96 * a.i + 24) 8,
      c.second_word-b.ensures,
      field_lt a.page.now (128 + 96 * a.i + 32) 32,
    )

pub returns-else-a-b : goal.returns-else-a-b
returns-else-a-b c =
    let a = c.args in
    let b = c.second_word-b in
    le-ltb _ _ c.if-a-b.false
    ∙ not_yet a.page.now (128 + 96 * a.i) a.v c.one-a.result b.result a.v (byte (goal.at.returns-else-a-b c).After-second_word-b) b.ensures
    refl c.if-a-b.false

pub returns-then-a-b : goal.returns-then-a-b
returns-then-a-b c =
    let a = c.args in
    let b = c.second_word-b in
    by_end a.page.now (128 + 96 * a.i) a.v c.one-a.result b.result a.v (byte (goal.at.returns-then-a-b c).After-second_word-b) b.ensures
    refl c.if-a-b.true
