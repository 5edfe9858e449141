-- `page::entry_at` meets its contract: the words of the entry are read. Assumes nothing.
use Prim.Native.Nat.{ℕ, ◌+◌, ◌*◌}
use mathlib.Core.Path.{refl, ◌∙◌}
use native.Mathlib.Omega.{arith}
use Rattle.bits.proofs.laws.Laws.{field-bytes}
use Rattle.page.proofs.laws.ByWords.{words-entry}
use Rattle.page.proofs.entry_at.Goals as goal

pub returns : goal.returns
returns c =
    let a = c.args in
    let o : ℕ = 128 + 96 * a.i in
    words-entry a.page.now o c.four-a.result c.four-b.result _ c.four.result
    (c.four-a.ensures ∙ field-bytes a.page.now (16 + 12 * a.i) o 32 (omega arith))
    (c.four-b.ensures ∙ field-bytes a.page.now (16 + 12 * a.i + 4) (o + 32) 32 (omega arith))
    refl
    (c.four.ensures ∙ field-bytes a.page.now (16 + 12 * a.i + 8) (o + 64) 32 (omega arith))
