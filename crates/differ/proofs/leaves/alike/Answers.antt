-- `leaves::alike` meets its contract. Assumes nothing.
use Rattle.differ.proofs.laws.Leaves.{leaf-stands, same_none}
use Rattle.walk.proofs.laws.Sure.{covers-inside}
use Rattle.cursor.proofs.laws.Leaf.{below-covers}
use Rattle.store.proofs.laws.Sure.{few}
use mathlib.Core.Path.{sym, ◌∙◌}
use Rattle.differ.proofs.leaves.alike.Goals as goal

pub part-p-requires : goal.part-p-requires
part-p-requires c =
    let r = c.requires.0 in (
      (covers-inside r _ _ _ (below-covers r _ _ _ c.requires.2)).part,
      few r.edition c.args.s.now r.sound,
    )

pub same-requires : goal.same-requires
same-requires c =
    let a = c.args in
    let p = c.requires in
    leaf-stands p.0 a.a.low a.x p.2 _ _ c.part-p.ensures.0 c.head_of-h.ensures

pub returns : goal.returns
returns c =
    let a = c.args in
    let p = c.requires in
    λ z. same_none a.a p.0 p.1 a.x a.y p.2 p.3 _ _ c.part-p.ensures.0 c.head_of-h.ensures
    (sym c.same.ensures ∙ z)
