use Rattle.plan.proofs.laws.Way.{looked_from}
use Rattle.gather.specs.Gather.{pairs_in}
use Rattle.model.specs.Walk.{around}
use mathlib.Core.Path.{◌≡◌}
use Rattle.plan.proofs.down.around_in.Given as goal

abbrev pub invariant-loop-i : goal.invariant-loop-i
invariant-loop-i l = around l.key (pairs_in l.g) ≡ looked_from l.key (pairs_in l.g) l.i
