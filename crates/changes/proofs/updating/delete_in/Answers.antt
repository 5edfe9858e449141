-- `delete_in` meets its contract: it is not sure. Assumes nothing.
use Rattle.reads.proofs.laws.Guard.{not-sure}
use Rattle.changes.proofs.updating.delete_in.Goals as goal

pub delete-requires : goal.delete-requires
delete-requires c = (not-sure c.args.l c.args.s.now)
