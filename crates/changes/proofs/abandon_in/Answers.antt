-- `abandon_in` meets its contract: it is not sure. Assumes nothing.
use Rattle.reads.proofs.laws.Guard.{not-sure}
use Rattle.changes.proofs.abandon_in.Goals as goal

pub abandon-requires : goal.abandon-requires
abandon-requires c = (not-sure c.args.l c.args.s.now)
