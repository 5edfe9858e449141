-- `act` meets its contract. Assumes nothing.
use Rattle.convert.proofs.laws.Pass.{asks-as, went-as}
use Rattle.model.specs.Layout.{decode}
use Rattle.convert.proofs.act.Goals as goal

pub set_one-requires : goal.set_one-requires
set_one-requires c =
    let p = c.requires in
    (p.0, asks-as _ _ c.if-insert.true p.1)

pub returns-then-insert : goal.returns-then-insert
returns-then-insert c =
    let a = c.args in went-as (decode a.l.least a.t.now) a.d a.insert _ c.if-insert.true
    c.set_one.ensures

pub end_one-requires : goal.end_one-requires
end_one-requires c =
    let p = c.requires in
    (p.0, asks-as _ _ c.if-insert.false p.1)

pub returns-else-insert : goal.returns-else-insert
returns-else-insert c =
    let a = c.args in went-as (decode a.l.least a.t.now) a.d a.insert _ c.if-insert.false
    c.end_one.ensures
