-- `edit::sift::has_key` meets its contract: the first word begins with the key. Assumes nothing.
use Prim.Native.Nat.{◌+◌, ◌*◌}
use mathlib.Core.Path.{refl, ◌∙◌}
use native.Mathlib.Omega.{arith}
use borrow.Author.Tests.{lt-leb}
use Rattle.edit.proofs.laws.Whole.{key_below, key-else}
use Rattle.edit.proofs.sift.has_key.Goals as goal

pub returns-else-k-a : goal.returns-else-k-a
returns-else-k-a c =
    let a = c.args in
    lt-leb _ _ c.if-k-a.false
    ∙ key_below a.page.now (128 + 96 * a.i) c.first_word-a.result a.key a.key c.first_word-a.ensures refl (omega arith)

pub returns-then-k-a : goal.returns-then-k-a
returns-then-k-a c =
    let a = c.args in
    key-else a.page.now (128 + 96 * a.i) c.first_word-a.result a.key a.key c.first_word-a.ensures refl (omega arith)
