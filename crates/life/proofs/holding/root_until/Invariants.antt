-- `holding::root_until` meets its contract: by the first i slots one root serves up to q. Assumes nothing.
use Prim.Native.Nat.{◌*◌}
use Rattle.model.specs.Layout.{read_slots}
use Rattle.model.specs.Walk.{root_at}
use Rattle.model.specs.Still.{Until}
use Rattle.life.proofs.holding.root_until.Given as goal

abbrev pub invariant-loop-i : goal.invariant-loop-i
invariant-loop-i l = Until l.v l.r (root_at (read_slots l.s (512 * l.l.least) l.i)) l.q
