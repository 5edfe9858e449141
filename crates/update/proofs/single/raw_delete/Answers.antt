-- `raw_delete` meets its contract. Assumes nothing.
use Rattle.update.proofs.laws.Single.{delete-leaves, comes-to}
use Rattle.update.proofs.single.raw_delete.Goals as goal

pub update-requires : goal.update-requires
update-requires c =
    let a = c.args in
    let p = c.requires in
    (p.sound, p.opened, p.key, c.deleting.ensures.1, delete-leaves p _ c.deleting.ensures.0)

pub returns : goal.returns
returns c =
    let a = c.args in
    let parts = comes-to a.l.least a.s.now a.key _ _ c.deleting.ensures.0 _ _ c.update.ensures.number
    c.update.ensures.bytes in record { number = parts.0; bytes = parts.1 }
