-- `commit_in` meets its contract: it is not sure. Assumes nothing.
use Rattle.reads.proofs.laws.Guard.{not-sure}
use Rattle.changes.proofs.commit_in.Goals as goal

pub commit-requires : goal.commit-requires
commit-requires c = (not-sure c.args.l c.args.s.now)
