-- `step` meets its contract. Assumes nothing.
use Rattle.cursor.proofs.laws.Leaf.{below-covers, step-next, step-last}
use Rattle.walk.proofs.laws.Here.{here-stands, here-pairs, here-starts}
use Rattle.walk.proofs.laws.Sure.{covers-inside}
use Rattle.store.proofs.laws.Sure.{few}
use Rattle.model.specs.Walk.{settings}
use Rattle.model.specs.Layout.{decode}
use native.Mathlib.Omega.{arith}
use Prim.Native.Nat.{◌+◌}
use Rattle.cursor.proofs.step.Goals as goal
use Rattle.cursor.proofs.step.Goals.{then-i-h, else-i-h}

pub part-p-requires : goal.part-p-requires
part-p-requires c =
    let r = c.requires.0 in (
      (covers-inside r _ _ _ (below-covers c.requires.0 _ _ _ c.requires.1)).part,
      few r.edition c.args.s.now r.sound,
    )

pub own_router-o-requires : goal.own_router-o-requires
own_router-o-requires c =
    let a = c.args in
    let k = below-covers c.requires.0 _ _ _ c.requires.1 in (
      here-stands c.requires.0 (a.up + 1) a.u.page a.key k _ _ c.part-p.ensures.0 c.head_of-h.ensures,
      here-starts c.requires.0 (a.up + 1) a.u.page a.key k _ _ c.part-p.ensures.0 c.head_of-h.ensures
          (λ z. omega (arith, z)),
    )

pub next_place-i-requires : goal.next_place-i-requires
next_place-i-requires c =
    let a = c.args in (
      here-stands c.requires.0 (a.up + 1) a.u.page a.key (below-covers c.requires.0 _ _ _ c.requires.1) _ _
          c.part-p.ensures.0 c.head_of-h.ensures,
      c.own_router-o.ensures.within,
    )

pub entry_at-requires : goal.entry_at-requires
entry_at-requires c =
    let a = c.args in
    let s = here-stands c.requires.0 (a.up + 1) a.u.page a.key (below-covers c.requires.0 _ _ _ c.requires.1) _ _
    c.part-p.ensures.0 c.head_of-h.ensures in
    (omega (arith, s.long, c.if-i-h.true), s.short)

pub returns : goal.returns
returns c =
    let a = c.args in
    let x = c.next_place-i.ensures in
    let e = here-pairs c.requires.0 (a.up + 1) a.u.page a.key (below-covers c.requires.0 _ _ _ c.requires.1) _ _
    c.part-p.ensures.0 c.head_of-h.ensures in
    elim c.if-i-h.branch [
      | then-i-h w ↦ rw (w.high-is, w.entry_at.ensures)
          (step-next a.l.least a.v (decode a.l.least a.s.now).pages (settings (decode a.l.least a.s.now) a.v) a.up
          a.u.page a.key a.u.high c.requires.1 _ _ e _ c.own_router-o.ensures _ x w.if-i-h.true)
      | else-i-h w ↦ rw w.high-is
          (step-last a.l.least a.v (decode a.l.least a.s.now).pages (settings (decode a.l.least a.s.now) a.v) a.up
          a.u.page a.key a.u.high c.requires.1 _ _ e _ c.own_router-o.ensures _ x
          (omega (arith, x.within, w.if-i-h.false)))
    ]
