-- `under` meets its contract: one word tells it. Assumes nothing.
use Prim.Native.Nat.{◌+◌, ◌*◌}
use mathlib.Core.Path.{◌∙◌}
use native.Mathlib.Omega.{arith}
use Rattle.bits.proofs.laws.Laws.{field-bytes}
use Rattle.walk.proofs.laws.Places.{word-under}
use Rattle.walk.proofs.search.under.Goals as goal

pub returns : goal.returns
returns c =
    let a = c.args in
    c.from.ensures
    ∙ word-under a.page.now a.i a.k c.four.result
    (c.four.ensures ∙ field-bytes a.page.now (16 + 12 * a.i) (128 + 96 * a.i) 32 (omega arith))
