-- `table::cell` meets its contract. Assumes nothing.
use Rattle.model.proofs.Edition.{edition}
use Prim.Native.Nat.{ℕ, ◌+◌, ◌*◌}
use native.Mathlib.Omega.{arith}
use mathlib.Core.Path.{ap}
use lib.ListN.{get_or}
use Rattle.tabled.proofs.laws.Cells.{place_after, place_in}
use Rattle.tabled.proofs.table.cell.Goals as goal

pub offset_bounds-table-place : goal.offset_bounds-table-place
offset_bounds-table-place c =
    let q = place_after (5 * c.args.l.least + 1) c.args.n 4096 c.args.i (omega (arith, c.requires.1))
    c.requires.0 in omega (arith, q, (edition c.args.l).eight, c.place.ensures)

pub bounds-table-place : goal.bounds-table-place
bounds-table-place c =
    let q = place_in (5 * c.args.l.least + 1) c.args.n 4096 c.args.i (omega (arith, c.requires.1))
    c.requires.0 c.args.table.now c.requires.2 in omega (arith, q, c.place.ensures)

pub returns : goal.returns
returns c = ap (λ (k : ℕ). get_or c.args.table.now k 0) c.place.ensures
