use Rattle.std.proofs.Common.{◌≡◌, ◌*◌, ◌-◌, ◌/◌, length}
use Rattle.model.specs.Kinds.{known_from, known_in}
use Rattle.kinds.proofs.kind_of.Given as goal

-- the rows from this one on say what the table says
abbrev pub invariant-loop-i : goal.invariant-loop-i
invariant-loop-i l = known_from (length l.table / 4 - l.i) l.table (4 * l.i) l.key ≡ known_in l.table l.key
