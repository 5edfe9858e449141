-- A call's number as the reply. Assumes nothing.
use Rattle.console.proofs.updating.told.Goals as goal

pub returns : goal.returns
returns c = rw c.answer.ensures
