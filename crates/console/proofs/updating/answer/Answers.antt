-- What a call gave to its answer. Assumes nothing.
use Rattle.console.proofs.Refusing.{answered-refusal}
use Rattle.console.proofs.updating.answer.Goals as goal

pub returns-in-Err : goal.returns-in-Err
returns-in-Err c = rw (c.in-Err.is, c.number.ensures) (answered-refusal c.in-Err.refusal)
