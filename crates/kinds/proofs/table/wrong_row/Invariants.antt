use Rattle.std.proofs.Common.{◌≡◌, ◌*◌, ◌-◌}
use Rattle.model.specs.Kinds.{wrong_from, wrong_row}
use Rattle.kinds.proofs.table.wrong_row.Given as goal

-- the rows from this one on are wrong where the table is
abbrev pub invariant-loop-i : goal.invariant-loop-i
invariant-loop-i l = wrong_from (l.rows - l.i) l.table (4 * l.i) l.least ≡ wrong_row l.table
