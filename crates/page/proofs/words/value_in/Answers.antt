-- `page::words::value_in` meets its contract: an entry's last four bytes. Assumes nothing.
use Prim.Native.Nat.{◌+◌, ◌*◌}
use mathlib.Core.Path.{◌∙◌}
use native.Mathlib.Omega.{arith}
use Rattle.model.specs.Layout.{read_entry}
use Rattle.bits.proofs.laws.Laws.{field-bytes}
use Rattle.page.proofs.words.value_in.Goals as goal

pub returns : goal.returns
unfolding read_entry
returns c =
    let a = c.args in
    c.four.ensures ∙ field-bytes a.page.now (24 + 12 * a.i) (128 + 96 * a.i + 64) 32 (omega arith)
