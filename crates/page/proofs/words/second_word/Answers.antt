-- `page::words::second_word` meets its contract: the four behind them. Assumes nothing.
use Prim.Native.Nat.{◌+◌, ◌*◌}
use mathlib.Core.Path.{◌∙◌}
use native.Mathlib.Omega.{arith}
use Rattle.bits.proofs.laws.Laws.{field-bytes}
use Rattle.page.proofs.words.second_word.Goals as goal

pub returns : goal.returns
returns c =
    let a = c.args in
    c.four.ensures ∙ field-bytes a.page.now (20 + 12 * a.i) (128 + 96 * a.i + 32) 32 (omega arith)
