-- `open_in` meets its contract: it is not sure. Assumes nothing.
use Rattle.reads.proofs.laws.Guard.{not-sure}
use Rattle.changes.proofs.open_in.Goals as goal

pub open-requires : goal.open-requires
open-requires c = (not-sure c.args.l c.args.s.now)
