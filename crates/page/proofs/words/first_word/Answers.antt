-- `page::words::first_word` meets its contract: four whole bytes from byte 16 + 12 i on. Assumes nothing.
use Prim.Native.Nat.{◌+◌, ◌*◌}
use mathlib.Core.Path.{◌∙◌}
use native.Mathlib.Omega.{arith}
use Rattle.bits.proofs.laws.Laws.{field-bytes}
use Rattle.page.proofs.words.first_word.Goals as goal

pub returns : goal.returns
returns c =
    let a = c.args in
    c.four.ensures ∙ field-bytes a.page.now (16 + 12 * a.i) (128 + 96 * a.i) 32 (omega arith)
