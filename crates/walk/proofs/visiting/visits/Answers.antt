-- `visits` meets its contract. Assumes nothing.
use native.Mathlib.Omega.{arith}
use Rattle.model.specs.Layout.{decode}
use Rattle.store.proofs.laws.Sure.{few}
use Rattle.walk.proofs.laws.Sure.{root-covers, covers-inside}
use Rattle.walk.proofs.laws.Visited.{visits-short, visits-all, root-height}
use Rattle.walk.proofs.visiting.visits.Goals as goal

pub height_of-up-requires : goal.height_of-up-requires
height_of-up-requires c =
    let r = c.requires.0 in
    let a = c.args in
    let k = root-covers r a.key c.requires.1 in
    rw c.root_at-root.ensures (covers-inside r _ _ _ k, few r.edition a.s.now r.sound, omega (arith, k.level))

pub overflow_add-count : goal.overflow_add-count
overflow_add-count c =
    let e = rw c.root_at-root.ensures at c.height_of-up.ensures in
    omega (arith, e, root-height c.requires.0)

pub returns-then-list-count : goal.returns-then-list-count
returns-then-list-count c =
    let a = c.args in
    let e = rw c.root_at-root.ensures at c.height_of-up.ensures in
    visits-short (decode a.l.least a.s.now) a.key a.v a.list.now c.height_of-up.result e c.if-list-count.true

pub note-requires : goal.note-requires
note-requires c =
    let r = c.requires.0 in
    let a = c.args in (
      r,
      rw (c.height_of-up.ensures, c.root_at-root.ensures) (root-covers r a.key c.requires.1),
      omega (arith, c.if-list-count.false),
    )

pub returns : goal.returns
returns c =
    let a = c.args in
    let e = rw c.root_at-root.ensures at c.height_of-up.ensures in
    visits-all (decode a.l.least a.s.now) a.key a.v a.list.now c.height_of-up.result e c.if-list-count.false _
    (rw (c.height_of-up.ensures, c.root_at-root.ensures) at c.note.ensures)
