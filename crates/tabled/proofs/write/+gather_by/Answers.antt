-- `write::gather_by` meets its contract. Assumes nothing.
use Prim.Native.Nat.{◌+◌, ◌*◌, ◌-◌}
use native.Mathlib.Omega.{arith}
use mathlib.Core.Path.{◌≡◌, refl, ap, ◌∙◌}
use Rattle.model.specs.Layout.{page_of, size_of, decode}
use Rattle.page.specs.declared.Head.{Head}
use Rattle.page.specs.Head.{read_head}
use Rattle.local.proofs.laws.Sizes.{head-asks}
use Rattle.walk.proofs.laws.Written.{gathers-space, gathers-length, space-front, gather-start, gather-same, gather-step}
use Rattle.walk.proofs.laws.Written.{gather-end, gathers-append}
use Rattle.tabled.proofs.laws.Here.{here-inside, here-stands, here-pairs, here-starts, here-own, here-all, here-range}
use Rattle.tabled.proofs.laws.Across.{from_first}
use Rattle.tabled.proofs.laws.Cells.{table-fewer}
use Rattle.tabled.proofs.laws.Skips.{turns-here}
use Rattle.walk.specs.Below.{later}
use Rattle.walk.proofs.laws.Below.{later-step, later-end, leaf-range}
use Rattle.tabled.proofs.write.+gather_by.Goals as goal

pub part-p-requires : goal.part-p-requires
part-p-requires t c =
    let a = c.args in
    let r = c.requires.0 in
    let g = c.requires.1 in
    ((here-inside r a.q.version a.q.high a.up a.n a.at g).part, r.few)

pub head_of-h-requires : goal.head_of-h-requires
head_of-h-requires t c = head-asks c.requires.0.edition c.part-p.result.now c.part-p.ensures.1

pub settings-requires : goal.settings-requires
settings-requires t c =
    let a = c.args in
    let r = c.requires.0 in
    let g = c.requires.1 in (
      here-stands r a.q.version a.q.high a.up a.n a.at g _ _ c.part-p.ensures.0 c.head_of-h.ensures,
      rw (leaf-range a.up (decode a.l.least a.s.now).pages a.q.version a.q.low a.q.high a.at a.n _
          c.if-up-eq0.true
          (here-pairs r a.q.version a.q.high a.up a.n a.at g _ _ c.part-p.ensures.0
          c.head_of-h.ensures)) at c.requires.2,
    )

pub returns-then-up-eq0 : goal.returns-then-up-eq0
returns-then-up-eq0 t c =
    let a = c.args in
    let r = c.requires.0 in
    let g = c.requires.1 in
    rw (leaf-range a.up (decode a.l.least a.s.now).pages a.q.version a.q.low a.q.high a.at a.n _
    c.if-up-eq0.true
    (here-pairs r a.q.version a.q.high a.up a.n a.at g _ _ c.part-p.ensures.0 c.head_of-h.ensures))
    c.settings.ensures

pub own_router-o-requires : goal.own_router-o-requires
own_router-o-requires t c =
    let a = c.args in
    let r = c.requires.0 in
    let g = c.requires.1 in (
      here-stands r a.q.version a.q.high a.up a.n a.at g _ _ c.part-p.ensures.0 c.head_of-h.ensures,
      here-starts r a.q.version a.q.high a.up a.n a.at g _ _ c.part-p.ensures.0 c.head_of-h.ensures
          c.if-up-eq0.false,
    )

pub gather_by-k-requires : goal.gather_by-k-requires
gather_by-k-requires t c =
    let a = c.args in
    let r = c.requires.0 in
    let g = c.requires.1 in
    let p = page_of a.l.least a.s.now a.n in
    let h = read_head a.l.least p in
    let w = rw (c.head_of-h.ensures, c.part-p.ensures.0) at c.own_router-o.ensures in
    let o = c.own_router-o.result in (
      omega (arith, c.if-up-eq0.false, c.decreases),
      (
        r,
        here-own r a.q.version a.q.high a.up a.n a.at g p h refl refl c.if-up-eq0.false o w,
        space-front _ _
            (rw (here-range r a.q.version a.q.high a.up a.n a.at g p h refl refl c.if-up-eq0.false o w a.q.low) at
            c.requires.2),
        table-fewer a.l.least a.s.now (size_of a.l.least a.s.now) r.sized a.q.version a.q.low a.q.high
            ((a.up + 2) * 4096) ((a.up - 1 + 2) * 4096) a.table.now (omega arith) c.requires.3,
      ),
    )

pub next_some-i-requires : goal.next_some-i-requires
next_some-i-requires t c =
    let a = c.args in
    let r = c.requires.0 in
    let g = c.requires.1 in
    let p = page_of a.l.least a.s.now a.n in
    let h = read_head a.l.least p in
    let w = rw (c.head_of-h.ensures, c.part-p.ensures.0) at c.own_router-o.ensures in
    let o = c.own_router-o.result in (
      turns-here r a.q.version a.q.low a.q.high a.up a.n a.at g c.if-up-eq0.false a.table.now
          c.requires.3,
      w.within,
      here-all r a.q.version a.q.high a.up a.n a.at g p h refl refl c.if-up-eq0.false o w,
    )

pub loop-i-init : goal.loop-i-init
loop-i-init t c =
    let a = c.args in
    let r = c.requires.0 in
    let g = c.requires.1 in
    let p = page_of a.l.least a.s.now a.n in
    let h = read_head a.l.least p in
    let w = rw (c.head_of-h.ensures, c.part-p.ensures.0) at c.own_router-o.ensures in
    let o = c.own_router-o.result in
    let s = rw (here-range r a.q.version a.q.high a.up a.n a.at g p h refl refl c.if-up-eq0.false o w a.q.low) at
    c.requires.2 in
    let x = c.next_some-i.ensures in (
      x.within,
      x.here,
      gather-start (rw x.same at (gathers-space _ _ s c.gather_by-k.ensures)),
      x.right,
    )

pub entry_at-e-requires : goal.entry_at-e-requires
entry_at-e-requires t c =
    let a = c.args in
    let r = c.requires.0 in
    let g = c.requires.1 in
    let s = here-stands r a.q.version a.q.high a.up a.n a.at g _ _ c.part-p.ensures.0
    c.head_of-h.ensures in
    (omega (arith, s.long, c.loop-i-test.true), s.short)

pub gather_by-k-requires-in-loop-i : goal.gather_by-k-requires-in-loop-i
gather_by-k-requires-in-loop-i t c =
    let a = c.args in
    let r = c.requires.0 in
    let g = c.requires.1 in
    let p = page_of a.l.least a.s.now a.n in
    let h = read_head a.l.least p in
    let m = ap (λ (x : Head). x.count) (c.head_of-h.ensures ∙ ap (read_head a.l.least) c.part-p.ensures.0) in
    let ps = (decode a.l.least a.s.now).pages in
    let l = c.loop-i in
    let f = l.invariant.1 (omega (arith, m, c.loop-i-test.true)) in
    let d = from_first a.l.least a.s.now a.q.version a.q.high (a.up - 1) p h.count l.i f l.invariant.3 in
    let y = gather-same (later-step (a.up - 1) ps a.q.version a.q.low a.q.high p h.count l.i f) l.invariant.2 in (
      omega (arith, c.if-up-eq0.false, c.decreases),
      (
        r,
        rw (c.entry_at-e.ensures, c.part-p.ensures.0) d.0,
        rw (c.entry_at-e.ensures, c.part-p.ensures.0) (space-front _ _ y.space),
        table-fewer a.l.least a.s.now (size_of a.l.least a.s.now) r.sized a.q.version a.q.low a.q.high
            ((a.up + 2) * 4096) ((a.up - 1 + 2) * 4096) a.table.now (omega arith) c.requires.3,
      ),
    )

pub overflow_add-i : goal.overflow_add-i
overflow_add-i t c =
    let a = c.args in
    let r = c.requires.0 in
    let g = c.requires.1 in
    let s = here-stands r a.q.version a.q.high a.up a.n a.at g _ _ c.part-p.ensures.0
    c.head_of-h.ensures in
    omega (arith, s.long, s.short, c.loop-i-test.true)

pub next_some-i-requires-in-loop-i : goal.next_some-i-requires-in-loop-i
next_some-i-requires-in-loop-i t c =
    let a = c.args in
    let r = c.requires.0 in
    let g = c.requires.1 in
    let p = page_of a.l.least a.s.now a.n in
    let h = read_head a.l.least p in
    let m = ap (λ (x : Head). x.count) (c.head_of-h.ensures ∙ ap (read_head a.l.least) c.part-p.ensures.0) in
    let ps = (decode a.l.least a.s.now).pages in
    let l = c.loop-i in
    let f = l.invariant.1 (omega (arith, m, c.loop-i-test.true)) in
    let d = from_first a.l.least a.s.now a.q.version a.q.high (a.up - 1) p h.count l.i f l.invariant.3 in
    let y = gather-same (later-step (a.up - 1) ps a.q.version a.q.low a.q.high p h.count l.i f) l.invariant.2 in (
      turns-here r a.q.version a.q.low a.q.high a.up a.n a.at g c.if-up-eq0.false a.table.now
          c.requires.3,
      omega (arith, m, c.loop-i-test.true),
      d.1,
    )

pub loop-i-smaller : goal.loop-i-smaller
loop-i-smaller t c =
    let a = c.args in
    let r = c.requires.0 in
    let g = c.requires.1 in
    let m = ap (λ (x : Head). x.count) (c.head_of-h.ensures ∙ ap (read_head a.l.least) c.part-p.ensures.0) in
    omega (arith, m, c.next_some-i-in-loop-i.ensures.after, c.next_some-i-in-loop-i.ensures.within, c.loop-i-test.true)

pub loop-i-preserved : goal.loop-i-preserved
loop-i-preserved t c =
    let a = c.args in
    let r = c.requires.0 in
    let g = c.requires.1 in
    let p = page_of a.l.least a.s.now a.n in
    let h = read_head a.l.least p in
    let m = ap (λ (x : Head). x.count) (c.head_of-h.ensures ∙ ap (read_head a.l.least) c.part-p.ensures.0) in
    let ps = (decode a.l.least a.s.now).pages in
    let l = c.loop-i in
    let f = l.invariant.1 (omega (arith, m, c.loop-i-test.true)) in
    let d = from_first a.l.least a.s.now a.q.version a.q.high (a.up - 1) p h.count l.i f l.invariant.3 in
    let y = gather-same (later-step (a.up - 1) ps a.q.version a.q.low a.q.high p h.count l.i f) l.invariant.2 in
    let x = c.next_some-i-in-loop-i.ensures in (
      x.within,
      x.here,
      gather-same x.same
          (gather-step _ _ y _ _
          (rw (c.entry_at-e.ensures, c.part-p.ensures.0) at
          c.gather_by-k-in-loop-i.ensures)),
      x.right,
    )

pub shape_of-list : goal.shape_of-list
shape_of-list t c = c.loop-i.invariant.2.same ∙ gathers-length c.gather_by-k.ensures

pub returns : goal.returns
returns t c =
    let a = c.args in
    let r = c.requires.0 in
    let g = c.requires.1 in
    let p = page_of a.l.least a.s.now a.n in
    let h = read_head a.l.least p in
    let m = ap (λ (x : Head). x.count) (c.head_of-h.ensures ∙ ap (read_head a.l.least) c.part-p.ensures.0) in
    let ps = (decode a.l.least a.s.now).pages in
    let w = rw (c.head_of-h.ensures, c.part-p.ensures.0) at c.own_router-o.ensures in
    let o = c.own_router-o.result in
    let l = c.loop-i in
    let e : l.i ≡ h.count = omega (arith, m, l.invariant.0, c.loop-i-test.false) in
    let z = ap (later (a.up - 1) ps a.q.version a.q.low a.q.high p h.count) e
    ∙ later-end (a.up - 1) ps a.q.version a.q.low a.q.high p h.count in
    rw (here-range r a.q.version a.q.high a.up a.n a.at g p h refl refl c.if-up-eq0.false o w a.q.low)
    (gathers-append c.gather_by-k.ensures
    (rw c.next_some-i.ensures.same (gather-end (gather-same z l.invariant.2))))
