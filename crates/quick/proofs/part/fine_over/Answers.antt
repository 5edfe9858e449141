use Rattle.quick.proofs.laws.Part.{fine-by}
use native.Mathlib.Omega.{arith}
use Rattle.std.proofs.lemmas.Grind.{common_steps}
use Rattle.quick.proofs.part.fine_over.Goals as goal

pub returns-then-key_over : goal.returns-then-key_over
returns-then-key_over c =
    let a = c.args in
    let q = fine-by a.l.least a.page.now c.head_of-h.result c.head_of-h.ensures a.m a.low a.a a.b in grind (arith, common_steps, q)

pub returns-else-key_over : goal.returns-else-key_over
returns-else-key_over c =
    let a = c.args in
    let q = fine-by a.l.least a.page.now c.head_of-h.result c.head_of-h.ensures a.m a.low a.a a.b in grind (arith, common_steps, q)
