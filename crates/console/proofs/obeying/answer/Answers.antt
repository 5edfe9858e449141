-- A line that ended is obeyed; none changes nothing. Assumes nothing.
use native.Mathlib.Omega.{arith}
use Rattle.console.proofs.Replying.{nothing-heard}
use Rattle.console.proofs.obeying.answer.Goals as goal

pub returns-in-Some : goal.returns-in-Some
returns-in-Some c = rw c.in-Some.is c.obey.ensures

pub returns-in-None : goal.returns-in-None
returns-in-None c =
    let a = c.args in
    rw c.in-None.is (nothing-heard a.bytes.now a.pages a.out.now a.at (omega arith) c.requires.pages_bound.3)
