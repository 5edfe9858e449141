-- `raw_insert` meets its contract. Assumes nothing.
use Rattle.update.proofs.laws.Single.{insert-leaves, comes-to}
use borrow.Author.Rules.{rules}
use Rattle.update.proofs.single.raw_insert.Goals as goal

pub inserting-requires : goal.inserting-requires
inserting-requires c = c.requires.key

pub update-requires : goal.update-requires
update-requires c =
    let a = c.args in
    let p = c.requires in (
      p.sound,
      p.opened,
      p.key,
      c.inserting.ensures.1,
      insert-leaves p a.value (search rules) _ c.inserting.ensures.0,
    )

pub returns : goal.returns
returns c =
    let a = c.args in
    let parts = comes-to a.l.least a.s.now a.key _ _ c.inserting.ensures.0 _ _ c.update.ensures.number
    c.update.ensures.bytes in record { number = parts.0; bytes = parts.1 }
