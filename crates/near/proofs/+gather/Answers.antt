-- `gather` meets its contract. Assumes nothing.
use Prim.Native.Nat.{◌-◌}
use native.Mathlib.Omega.{arith}
use mathlib.Core.Path.{◌≡◌, ap, sym, ◌∙◌}
use Rattle.local.proofs.laws.Sizes.{head-asks}
use Rattle.model.specs.Layout.{decode}
use Rattle.walk.proofs.laws.Written.{gathers-space, gathers-length, space-front, gather-start, gather-same, gather-step}
use Rattle.walk.proofs.laws.Written.{gather-end, gathers-append}
use Rattle.tabled.proofs.laws.Here.{here-inside, here-stands, here-pairs, here-starts, here-own, here-all, here-range}
use Rattle.tabled.proofs.laws.Across.{from_first, from-same}
use Rattle.walk.specs.Below.{later}
use Rattle.walk.proofs.laws.Below.{later-step, later_same, later-end, leaf-range}
use Rattle.near.proofs.+gather.Goals as goal

pub part-p-requires : goal.part-p-requires
part-p-requires t c =
    let r = c.requires.0 in
    let a = c.args in
    ((here-inside r a.q.version a.q.high a.up a.n a.at c.requires.1).part, r.few)

pub head_of-h-requires : goal.head_of-h-requires
head_of-h-requires t c = head-asks c.requires.0.edition c.part-p.result.now c.part-p.ensures.1

pub settings-requires : goal.settings-requires
settings-requires t c =
    let a = c.args in
    let r = c.requires.0 in (
      here-stands r a.q.version a.q.high a.up a.n a.at c.requires.1 _ _ c.part-p.ensures.0
          c.head_of-h.ensures,
      rw (leaf-range a.up (decode a.l.least a.s.now).pages a.q.version a.q.low a.q.high a.at a.n _
          c.if-up-eq0.true
          (here-pairs r a.q.version a.q.high a.up a.n a.at c.requires.1 _ _ c.part-p.ensures.0
          c.head_of-h.ensures)) at c.requires.2,
    )

pub returns-then-up-eq0 : goal.returns-then-up-eq0
returns-then-up-eq0 t c =
    let a = c.args in
    let r = c.requires.0 in
    rw (leaf-range a.up (decode a.l.least a.s.now).pages a.q.version a.q.low a.q.high a.at a.n _
    c.if-up-eq0.true
    (here-pairs r a.q.version a.q.high a.up a.n a.at c.requires.1 _ _ c.part-p.ensures.0
    c.head_of-h.ensures)) c.settings.ensures

pub own_router-o-requires : goal.own_router-o-requires
own_router-o-requires t c =
    let a = c.args in
    let r = c.requires.0 in (
      here-stands r a.q.version a.q.high a.up a.n a.at c.requires.1 _ _ c.part-p.ensures.0
          c.head_of-h.ensures,
      here-starts r a.q.version a.q.high a.up a.n a.at c.requires.1 _ _ c.part-p.ensures.0
          c.head_of-h.ensures c.if-up-eq0.false,
    )

pub gather-k-requires : goal.gather-k-requires
gather-k-requires t c =
    let a = c.args in
    let r = c.requires.0 in
    let o = c.own_router-o.ensures in (
      omega (arith, c.if-up-eq0.false, c.decreases),
      (
        r,
        here-own r a.q.version a.q.high a.up a.n a.at c.requires.1 _ _ c.part-p.ensures.0
            c.head_of-h.ensures c.if-up-eq0.false _ o,
        space-front _ _
            (rw (here-range r a.q.version a.q.high a.up a.n a.at c.requires.1 _ _ c.part-p.ensures.0
            c.head_of-h.ensures c.if-up-eq0.false _ o a.q.low) at c.requires.2),
      ),
    )

pub next_place-i-requires : goal.next_place-i-requires
next_place-i-requires t c =
    let a = c.args in (
      here-stands c.requires.0 a.q.version a.q.high a.up a.n a.at c.requires.1 _ _
          c.part-p.ensures.0 c.head_of-h.ensures,
      c.own_router-o.ensures.within,
    )

pub loop-i-init : goal.loop-i-init
loop-i-init t c =
    let a = c.args in
    let r = c.requires.0 in
    let o = c.own_router-o.ensures in
    let x = c.next_place-i.ensures in
    let s = rw (here-range r a.q.version a.q.high a.up a.n a.at c.requires.1 _ _ c.part-p.ensures.0
    c.head_of-h.ensures c.if-up-eq0.false _ o a.q.low) at c.requires.2 in (
      x.within,
      x.here,
      gather-start (rw
          (later_same (a.up - 1) (decode a.l.least a.s.now).pages a.q.version a.q.low a.q.high _ _ _ _ x.same) at
          (gathers-space _ _ s c.gather-k.ensures)),
      sym (from-same a.l.least a.s.now a.q.version a.q.high (a.up - 1) _ _ _ _ x.same)
          ∙ here-all r a.q.version a.q.high a.up a.n a.at c.requires.1 _ _ c.part-p.ensures.0
          c.head_of-h.ensures c.if-up-eq0.false _ o,
    )

pub entry_at-e-requires : goal.entry_at-e-requires
entry_at-e-requires t c =
    let a = c.args in
    let s = here-stands c.requires.0 a.q.version a.q.high a.up a.n a.at c.requires.1 _ _
    c.part-p.ensures.0 c.head_of-h.ensures in
    (omega (arith, s.long, c.loop-i-test.true), s.short)

pub gather-k-requires-in-loop-i : goal.gather-k-requires-in-loop-i
gather-k-requires-in-loop-i t c =
    let a = c.args in
    let r = c.requires.0 in
    let l = c.loop-i in
    let h = l.invariant.1 c.loop-i-test.true in
    let g = gather-same (later-step (a.up - 1) (decode a.l.least a.s.now).pages a.q.version a.q.low a.q.high _ _ _ h)
    l.invariant.2 in (
      omega (arith, c.if-up-eq0.false, c.decreases),
      (
        r,
        rw c.entry_at-e.ensures
            (from_first a.l.least a.s.now a.q.version a.q.high (a.up - 1) _ _ l.i h l.invariant.3).0,
        rw c.entry_at-e.ensures (space-front _ _ g.space),
      ),
    )

pub overflow_add-i : goal.overflow_add-i
overflow_add-i t c =
    let a = c.args in
    let s = here-stands c.requires.0 a.q.version a.q.high a.up a.n a.at c.requires.1 _ _
    c.part-p.ensures.0 c.head_of-h.ensures in
    omega (arith, s.long, s.short, c.loop-i-test.true)

pub next_place-i-requires-in-loop-i : goal.next_place-i-requires-in-loop-i
next_place-i-requires-in-loop-i t c =
    let a = c.args in (
      here-stands c.requires.0 a.q.version a.q.high a.up a.n a.at c.requires.1 _ _
          c.part-p.ensures.0 c.head_of-h.ensures,
      omega (arith, c.loop-i-test.true),
    )

pub loop-i-preserved : goal.loop-i-preserved
loop-i-preserved t c =
    let a = c.args in
    let l = c.loop-i in
    let h = l.invariant.1 c.loop-i-test.true in
    let x = c.next_place-i-in-loop-i.ensures in
    let g = gather-same (later-step (a.up - 1) (decode a.l.least a.s.now).pages a.q.version a.q.low a.q.high _ _ _ h)
    l.invariant.2 in (
      x.within,
      x.here,
      gather-same (later_same (a.up - 1) (decode a.l.least a.s.now).pages a.q.version a.q.low a.q.high _ _ _ _
          x.same) (gather-step _ _ g _ _
          (rw c.entry_at-e.ensures at c.gather-k-in-loop-i.ensures)),
      sym (from-same a.l.least a.s.now a.q.version a.q.high (a.up - 1) _ _ _ _ x.same)
          ∙ (from_first a.l.least a.s.now a.q.version a.q.high (a.up - 1) _ _ l.i h l.invariant.3).1,
    )

pub shape_of-list : goal.shape_of-list
shape_of-list t c = c.loop-i.invariant.2.same ∙ gathers-length c.gather-k.ensures

pub returns : goal.returns
returns t c =
    let a = c.args in
    let r = c.requires.0 in
    let o = c.own_router-o.ensures in
    let l = c.loop-i in
    let e : l.i ≡ c.head_of-h.result.count = omega (arith, l.invariant.0, c.loop-i-test.false) in
    let z = ap (later (a.up - 1) (decode a.l.least a.s.now).pages a.q.version a.q.low a.q.high
    c.part-p.result.now c.head_of-h.result.count) e
    ∙ later-end (a.up - 1) (decode a.l.least a.s.now).pages a.q.version a.q.low a.q.high c.part-p.result.now
    c.head_of-h.result.count in
    rw (here-range r a.q.version a.q.high a.up a.n a.at c.requires.1 _ _ c.part-p.ensures.0
    c.head_of-h.ensures c.if-up-eq0.false _ o a.q.low)
    (gathers-append c.gather-k.ensures
    (rw (later_same (a.up - 1) (decode a.l.least a.s.now).pages a.q.version a.q.low a.q.high _ _ _ _
    c.next_place-i.ensures.same) (gather-end (gather-same z l.invariant.2))))
