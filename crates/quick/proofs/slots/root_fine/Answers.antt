use Rattle.quick.proofs.laws.Slots.{slot-by}
use native.Mathlib.Omega.{arith}
use Rattle.std.proofs.lemmas.Grind.{common_steps}
use Rattle.quick.proofs.slots.root_fine.Goals as goal

pub returns-then-b-h : goal.returns-then-b-h
returns-then-b-h c =
    let q = slot-by c.args.l.least c.args.page.now c.head_of-h.result c.head_of-h.ensures c.args.a c.args.b in grind (arith, common_steps, q, c.fine_over.ensures)

pub returns-else-b-h : goal.returns-else-b-h
returns-else-b-h c =
    let q = slot-by c.args.l.least c.args.page.now c.head_of-h.result c.head_of-h.ensures c.args.a c.args.b in grind (arith, common_steps, q)
