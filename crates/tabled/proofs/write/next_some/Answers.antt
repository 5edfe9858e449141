-- `write::next_some` meets its contract: what is found from place i on is found from place k on. Assumes nothing.
use Prim.Native.Nat.{suc, ◌+◌, ◌*◌}
use native.Mathlib.Omega.{arith}
use mathlib.Core.Path.{◌≡◌, ap, ◌∙◌}
use lib.ListN.{get_or}
use Rattle.local.proofs.laws.Sizes.{head-asks}
use Rattle.model.specs.Layout.{size_of}
use Rattle.page.specs.Head.{read_head}
use Rattle.page.specs.declared.Head.{Head}
use Rattle.tabled.proofs.laws.Skips.{skips-next, skips-on, skips-none}
use Rattle.tabled.proofs.laws.Cells.{right-low, right-count}
use Rattle.tabled.proofs.laws.Inside.{right-inside}
use Rattle.tabled.proofs.write.next_some.Goals as goal

pub part-p-requires : goal.part-p-requires
part-p-requires c =
    let a = c.args in
    let r = c.requires.0.reads in (
      (right-inside r.edition a.s.now (size_of a.l.least a.s.now) r.sized (suc a.up) a.n
          c.requires.0.right).part,
      r.few,
    )

pub head_of-h-requires : goal.head_of-h-requires
head_of-h-requires c = head-asks c.requires.0.reads.edition c.part-p.result.now c.part-p.ensures.1

pub next_place-k-requires : goal.next_place-k-requires
next_place-k-requires c =
    let a = c.args in
    let r = c.requires.0.reads in
    let i = right-inside r.edition a.s.now (size_of a.l.least a.s.now) r.sized (suc a.up) a.n
    c.requires.0.right in
    rw (c.head_of-h.ensures, c.part-p.ensures.0) (i.stands, c.requires.1)

pub loop-k-init : goal.loop-k-init
loop-k-init c =
    let a = c.args in
    skips-next a.l.least a.s.now a.q.version a.q.low a.q.high a.up a.n a.i c.next_place-k.result
    (rw (c.head_of-h.ensures, c.part-p.ensures.0) at c.next_place-k.ensures) c.requires.2

pub cell-requires : goal.cell-requires
cell-requires c =
    let a = c.args in
    let r = c.requires.0.reads in
    let f = right-count a.l.least a.s.now (size_of a.l.least a.s.now) r.sized (suc (suc a.up)) a.n (omega arith)
    c.requires.0.right in (
      right-low a.l.least a.s.now (size_of a.l.least a.s.now) r.sized (suc (suc a.up)) a.n (omega arith)
          c.requires.0.right,
      omega (arith, f, c.loop-k.invariant.within),
      c.requires.0.long,
    )

pub overflow_add-k : goal.overflow_add-k
overflow_add-k c =
    let a = c.args in
    let r = c.requires.0.reads in
    let f = right-count a.l.least a.s.now (size_of a.l.least a.s.now) r.sized (suc (suc a.up)) a.n (omega arith)
    c.requires.0.right in
    omega (arith, f, c.loop-k.invariant.within, r.edition.eight)

pub cell-requires-in-loop-k : goal.cell-requires-in-loop-k
cell-requires-in-loop-k c =
    let a = c.args in
    let r = c.requires.0.reads in
    let m = ap (λ (x : Head). x.count) (c.head_of-h.ensures ∙ ap (read_head a.l.least) c.part-p.ensures.0) in
    let f = right-count a.l.least a.s.now (size_of a.l.least a.s.now) r.sized (suc (suc a.up)) a.n (omega arith)
    c.requires.0.right in (
      right-low a.l.least a.s.now (size_of a.l.least a.s.now) r.sized (suc (suc a.up)) a.n (omega arith)
          c.requires.0.right,
      omega (arith, f, m, c.loop-k-test.true),
      c.requires.0.long,
    )

pub overflow_add-k-in-loop-k : goal.overflow_add-k-in-loop-k
overflow_add-k-in-loop-k c =
    let a = c.args in
    let r = c.requires.0.reads in
    let f = right-count a.l.least a.s.now (size_of a.l.least a.s.now) r.sized (suc (suc a.up)) a.n (omega arith)
    c.requires.0.right in
    omega (arith, f, c.loop-k.invariant.within, r.edition.eight)

pub next_place-k-requires-in-loop-k : goal.next_place-k-requires-in-loop-k
next_place-k-requires-in-loop-k c =
    let a = c.args in
    let r = c.requires.0.reads in
    let i = right-inside r.edition a.s.now (size_of a.l.least a.s.now) r.sized (suc a.up) a.n
    c.requires.0.right in
    (rw (c.head_of-h.ensures, c.part-p.ensures.0) i.stands, omega (arith, c.loop-k-test.true))

pub loop-k-smaller : goal.loop-k-smaller
loop-k-smaller c = omega (arith, c.next_place-k-in-loop-k.ensures.behind, c.next_place-k-in-loop-k.ensures.within, c.loop-k-test.true)

pub loop-k-preserved : goal.loop-k-preserved
loop-k-preserved c =
    let a = c.args in
    let k = c.loop-k.k in
    let m = ap (λ (x : Head). x.count) (c.head_of-h.ensures ∙ ap (read_head a.l.least) c.part-p.ensures.0) in
    let e : get_or a.table.now (a.n * (5 * a.l.least + 1) + k) 0 ≡ get_or a.table.now (a.n * (5 * a.l.least + 1) + (k + 1)) 0
    = omega (arith, c.cell.ensures, c.if-cell.false, c.cell-in-loop-k.ensures) in
    let y = skips-none a.l.least a.s.now a.q.version a.q.low a.q.high a.up a.n a.i k c.loop-k.invariant
    (omega (arith, m, c.loop-k-test.true)) a.table.now c.requires.0.row e in
    skips-on a.l.least a.s.now a.q.version a.q.low a.q.high a.up a.n a.i k c.next_place-k-in-loop-k.result
    c.loop-k.invariant y.0
    (skips-next a.l.least a.s.now a.q.version a.q.low a.q.high a.up a.n (k + 1) c.next_place-k-in-loop-k.result
    (rw (c.head_of-h.ensures, c.part-p.ensures.0) at c.next_place-k-in-loop-k.ensures) y.1)
