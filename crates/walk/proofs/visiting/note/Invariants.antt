-- `note` meets its contract. Assumes nothing.
use Rattle.model.specs.Layout.{decode}
use Rattle.walk.proofs.laws.Visited.{Noting}
use Rattle.walk.proofs.visiting.note.Given as goal

abbrev pub invariant-loop-i : goal.invariant-loop-i
invariant-loop-i l = Noting l.l.least l.v l.key (decode l.l.least l.s).pages l.initial.list l.list l.up l.n l.i l.here
