-- What was read so far, and what was made of it; and there are no more lines than bytes. Assumes nothing.
use Rattle.std.proofs.Common.{◌-◌}
use Rattle.console.proofs.Pieces.{Served}
use Rattle.console.proofs.serving.serve.Given as goal

abbrev pub invariant-loop-reads : goal.invariant-loop-reads
invariant-loop-reads g l =
    Served (g.R.Read.remaining l.initial.input) (g.R.Read.remaining l.input) (g.W.Write.contents l.initial.output)
    (g.W.Write.contents l.output) l.bytes l.h l.p l.reads

abbrev pub decreases-loop-reads : goal.decreases-loop-reads
decreases-loop-reads g l = 1099511627776 - l.reads
