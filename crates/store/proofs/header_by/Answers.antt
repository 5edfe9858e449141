-- `store::header_by` meets its contract: the fields are read one by one. Assumes nothing.
use Rattle.store.specs.Header.{header_by}
use Rattle.store.proofs.header_by.Goals as goal

pub returns : goal.returns
unfolding header_by
returns c = cc
