-- `table::place` meets its contract. Assumes nothing.
use Rattle.model.proofs.Edition.{edition}
use Prim.Native.Nat.{◌+◌, ◌*◌}
use native.Mathlib.Omega.{arith}
use Rattle.tabled.proofs.laws.Cells.{place_after}
use Rattle.tabled.proofs.table.place.Goals as goal

pub overflow_mul-result-2 : goal.overflow_mul-result-2
overflow_mul-result-2 c =
    let q = place_after (5 * c.args.l.least + 1) c.args.n 4096 c.args.i (omega (arith, c.requires.1))
    c.requires.0 in omega (arith, q, (edition c.args.l).eight)

pub overflow_add-result-2 : goal.overflow_add-result-2
overflow_add-result-2 c =
    let q = place_after (5 * c.args.l.least + 1) c.args.n 4096 c.args.i (omega (arith, c.requires.1))
    c.requires.0 in omega (arith, q, (edition c.args.l).eight)
