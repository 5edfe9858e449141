-- `first_in` meets its contract. Assumes nothing.
use Rattle.cursor.proofs.laws.Leaf.{below-covers, first-here, first-none}
use Rattle.walk.proofs.laws.Here.{here-stands, here-pairs}
use Rattle.walk.proofs.laws.Sure.{covers-inside}
use Rattle.store.proofs.laws.Sure.{few}
use Rattle.model.specs.Entry.{pair_of}
use Rattle.model.specs.Walk.{settings}
use Rattle.model.specs.Layout.{decode}
use mathlib.Core.Path.{ap, ◌∙◌}
use native.Mathlib.Omega.{arith}
use Rattle.cursor.proofs.first_in.Goals as goal

pub part-p-requires : goal.part-p-requires
part-p-requires c =
    let r = c.requires.0 in (
      (covers-inside r _ _ _ (below-covers c.requires.0 _ _ _ c.requires.1)).part,
      few r.edition c.args.s.now r.sound,
    )

pub next_place-i-requires : goal.next_place-i-requires
next_place-i-requires c =
    let a = c.args in (
      here-stands c.requires.0 0 a.u.page a.key (below-covers c.requires.0 _ _ _ c.requires.1) _ _
          c.part-p.ensures.0 c.head_of-h.ensures,
      omega arith,
    )

pub entry_at-e-requires : goal.entry_at-e-requires
entry_at-e-requires c =
    let a = c.args in
    let s = here-stands c.requires.0 0 a.u.page a.key (below-covers c.requires.0 _ _ _ c.requires.1) _ _
    c.part-p.ensures.0 c.head_of-h.ensures in
    (omega (arith, s.long, c.if-i-h.true), s.short)

pub returns-then-i-h : goal.returns-then-i-h
returns-then-i-h c =
    let a = c.args in
    let e = here-pairs c.requires.0 0 a.u.page a.key (below-covers c.requires.0 _ _ _ c.requires.1) _ _
    c.part-p.ensures.0 c.head_of-h.ensures in
    ap pair_of c.entry_at-e.ensures
    ∙ first-here a.l.least a.v (decode a.l.least a.s.now).pages (settings (decode a.l.least a.s.now) a.v)
    a.u.page a.key a.u.high c.requires.1 _ _ e _ c.next_place-i.ensures c.if-i-h.true

pub returns-else-i-h : goal.returns-else-i-h
returns-else-i-h c =
    let a = c.args in
    let e = here-pairs c.requires.0 0 a.u.page a.key (below-covers c.requires.0 _ _ _ c.requires.1) _ _
    c.part-p.ensures.0 c.head_of-h.ensures in
    first-none a.l.least a.v (decode a.l.least a.s.now).pages (settings (decode a.l.least a.s.now) a.v)
    a.u.page a.key a.u.high c.requires.1 _ _ e _ c.next_place-i.ensures
    (omega (arith, c.next_place-i.ensures.within, c.if-i-h.false))
