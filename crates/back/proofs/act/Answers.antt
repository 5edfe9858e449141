-- `act` meets its contract. Assumes nothing.
use Rattle.back.proofs.laws.Pass.{stepped-as}
use Rattle.model.specs.Layout.{decode}
use Rattle.back.proofs.act.Goals as goal

pub set_one-requires : goal.set_one-requires
set_one-requires c = c.requires

pub returns-then-insert : goal.returns-then-insert
returns-then-insert c =
    let a = c.args in stepped-as (decode a.l.least a.s.now) a.d a.insert _ c.if-insert.true
    c.set_one.ensures

pub end_one-requires : goal.end_one-requires
end_one-requires c = c.requires

pub returns-else-insert : goal.returns-else-insert
returns-else-insert c =
    let a = c.args in stepped-as (decode a.l.least a.s.now) a.d a.insert _ c.if-insert.false
    c.end_one.ensures
