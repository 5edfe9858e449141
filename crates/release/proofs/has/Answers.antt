-- `has` meets its contract. Assumes nothing.
use Rattle.model.specs.Walk.{lookup}
use Rattle.model.specs.Layout.{decode}
use Rattle.release.proofs.laws.Places.{value-so, absent-so}
use Rattle.release.proofs.has.Goals as goal

pub returns-in-Some : goal.returns-in-Some
returns-in-Some c =
    let a = c.args in
    value-so c.in-Some.x a.e.value (lookup (decode a.l.least a.s.now) a.e.key a.v) c.in-Some.ensures

pub returns-in-None : goal.returns-in-None
returns-in-None c =
    let a = c.args in
    absent-so a.e.value (lookup (decode a.l.least a.s.now) a.e.key a.v) c.in-None.ensures
