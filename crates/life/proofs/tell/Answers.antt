-- `tell` meets its contract where it tells nothing. Assumes nothing.
use native.Mathlib.Omega.{arith}
use mathlib.Core.Path.{sym}
use Rattle.model.proofs.reading.Telling.{written_none}
use Rattle.model.specs.Still.{stretches}
use Rattle.life.proofs.tell.Goals as goal

pub returns-in-None : goal.returns-in-None
returns-in-None c =
    let a = c.args in
    rw c.in-None.is (record { count = omega arith; list = sym (written_none stretches a.write a.list.now a.k) })
