-- `leaves::tell` meets its contract. Assumes nothing.
use Rattle.differ.proofs.laws.Leaves.{leaf-stands, rest-ordered, same_none, both-asked}
use Rattle.model.proofs.reading.Telling.{written_none}
use native.Mathlib.Omega.{arith}
use Rattle.walk.proofs.laws.Sure.{covers-inside}
use Rattle.cursor.proofs.laws.Leaf.{below-covers}
use Rattle.store.proofs.laws.Sure.{few}
use mathlib.Core.Path.{sym, ◌∙◌, subst}
use Rattle.model.specs.Telling.{Space, Gathers, deltas}
use Rattle.differ.proofs.leaves.tell.Goals as goal

pub part-p-requires : goal.part-p-requires
part-p-requires c =
    let a = c.args in
    let r = c.requires.0 in
    let q = c.requires.1 in
    let g = c.requires.2 in
    let f = c.requires.3 in
    ((covers-inside r _ _ _ (below-covers r _ _ _ g)).part, few r.edition a.s.now r.sound)

pub same-requires : goal.same-requires
same-requires c =
    let a = c.args in
    let r = c.requires.0 in
    let q = c.requires.1 in
    let g = c.requires.2 in
    let f = c.requires.3 in
    leaf-stands r a.a.low a.x g _ _ c.part-p.ensures.0 c.head_of-h.ensures

pub returns-then-same : goal.returns-then-same
returns-then-same c =
    let a = c.args in
    let r = c.requires.0 in
    let q = c.requires.1 in
    let g = c.requires.2 in
    let f = c.requires.3 in
    let e = same_none a.a r q a.x a.y g f _ _ c.part-p.ensures.0 c.head_of-h.ensures
    (sym c.same.ensures ∙ c.if-same.true) in
    subst (Gathers deltas a.a.write a.list.now a.list.now a.found a.found) (sym e)
    (record { count = omega arith; list = sym (written_none deltas a.a.write a.list.now a.found) })

pub part-q-requires : goal.part-q-requires
part-q-requires c =
    let a = c.args in
    let r = c.requires.0 in
    let q = c.requires.1 in
    let g = c.requires.2 in
    let f = c.requires.3 in
    ((covers-inside q _ _ _ (below-covers q _ _ _ f)).part, few q.edition a.s.now q.sound)

pub merge-requires : goal.merge-requires
merge-requires c =
    let a = c.args in
    let r = c.requires.0 in
    let q = c.requires.1 in
    let g = c.requires.2 in
    let f = c.requires.3 in
    let e = both-asked a.a r q a.x a.y g f _ _ c.part-p.ensures.0 c.head_of-h.ensures _ _
    c.part-q.ensures.0 c.head_of-g.ensures in (
      leaf-stands r a.a.low a.x g _ _ c.part-p.ensures.0 c.head_of-h.ensures,
      leaf-stands q a.a.low a.y f _ _ c.part-q.ensures.0 c.head_of-g.ensures,
      rest-ordered r a.a.low a.x g _ _ c.part-p.ensures.0 c.head_of-h.ensures a.a.low a.a.high,
      rest-ordered q a.a.low a.y f _ _ c.part-q.ensures.0 c.head_of-g.ensures a.a.low a.a.high,
      subst (Space deltas a.a.write a.list.now a.found) (sym e) c.requires.4,
    )

pub returns : goal.returns
returns c =
    let a = c.args in
    let r = c.requires.0 in
    let q = c.requires.1 in
    let g = c.requires.2 in
    let f = c.requires.3 in
    let e = both-asked a.a r q a.x a.y g f _ _ c.part-p.ensures.0 c.head_of-h.ensures _ _
    c.part-q.ensures.0 c.head_of-g.ensures in
    subst (Gathers deltas a.a.write a.list.now _ a.found _) e c.merge.ensures
