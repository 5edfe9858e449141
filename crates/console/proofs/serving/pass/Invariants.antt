-- What is written, the store and the line that is being read after a piece: what is left gives them throughout. Assumes nothing.
use Rattle.std.proofs.Common.{◌-◌, length}
use Rattle.console.specs.Obeys.{store_in}
use Rattle.console.proofs.Passing.{PieceOut}
use Rattle.console.proofs.serving.pass.Given as goal

abbrev pub invariant-loop-at : goal.invariant-loop-at
invariant-loop-at g l =
    PieceOut (g.W.Write.contents l.initial.output) (g.W.Write.contents l.output) l.initial.h (store_in l.initial.bytes l.initial.p) l.piece
    l.bytes l.h l.p l.at

abbrev pub decreases-loop-at : goal.decreases-loop-at
decreases-loop-at g l = length l.piece - l.at
