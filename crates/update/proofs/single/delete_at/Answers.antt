-- `delete_at` meets its contract. Assumes nothing.
use Rattle.update.proofs.laws.Single.{delete-leaves, comes-to}
use Rattle.update.proofs.single.delete_at.Goals as goal

pub update_at-requires : goal.update_at-requires
update_at-requires c =
    let a = c.args in
    let q = c.requires in
    let p = q.0 in
    (p.sound, p.opened, p.key, c.deleting.ensures.1, delete-leaves p _ c.deleting.ensures.0, q.1, q.2)

pub returns : goal.returns
returns c =
    let a = c.args in
    let parts = comes-to a.l.least a.s.now a.key _ _ c.deleting.ensures.0 _ _ c.update_at.ensures.number
    c.update_at.ensures.bytes in record { number = parts.0; bytes = parts.1 }
