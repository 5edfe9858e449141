-- `page::words::copy_entry` meets its contract: the three words, put at the other place. Assumes nothing.
use Prim.Native.Nat.{ℕ, ◌+◌, ◌*◌}
use mathlib.Core.Path.{◌∙◌}
use native.Mathlib.Omega.{arith}
use Rattle.bits.proofs.laws.Laws.{field-bytes}
use Rattle.page.proofs.laws.Whole.{copy-lay}
use Rattle.page.proofs.words.copy_entry.Goals as goal

pub returns : goal.returns
returns c =
    let a = c.args in
    let o : ℕ = 128 + 96 * a.i in
    c.put_field-3.ensures
    ∙ rw (c.put_field-2.ensures, c.put_field.ensures)
    (copy-lay a.page.now o (128 + 96 * a.j) c.four-a.result c.four-b.result c.four-c.result
    (c.four-a.ensures ∙ field-bytes a.page.now (16 + 12 * a.i) o 32 (omega arith))
    (c.four-b.ensures ∙ field-bytes a.page.now (16 + 12 * a.i + 4) (o + 32) 32 (omega arith))
    (c.four-c.ensures ∙ field-bytes a.page.now (16 + 12 * a.i + 8) (o + 64) 32 (omega arith)))
