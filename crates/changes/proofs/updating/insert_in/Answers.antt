-- `insert_in` meets its contract: it is not sure. Assumes nothing.
use Rattle.reads.proofs.laws.Guard.{not-sure}
use Rattle.changes.proofs.updating.insert_in.Goals as goal

pub insert-requires : goal.insert-requires
insert-requires c = (not-sure c.args.l c.args.s.now)
