-- `next_change` meets its contract: nothing of the pages before n starts or ends behind v and before q. Assumes nothing.
use Rattle.model.proofs.Edition.{edition}
use Prim.Native.Nat.{ℕ, ◌<◌}
use native.Mathlib.Omega.{arith}
use mathlib.Core.Path.{ap}
use Rattle.model.specs.declared.Header.{Header}
use Rattle.model.specs.Layout.{page_of, size_of}
use Rattle.store.proofs.laws.Sure.{front, few, part_in, whole}
use Rattle.local.specs.Local.{slot_at}
use Rattle.convert.proofs.laws.Skip.{room, slots-less, parts_more}
use Rattle.convert.proofs.skip.next_change.Goals as goal

pub header-h-requires : goal.header-h-requires
header-h-requires c =
    let a = c.args in
    let p = c.requires in
    (omega (arith, front (edition c.args.k) a.s.now p.0), few (edition c.args.k) a.s.now p.0)

pub slots_change-q-requires : goal.slots_change-q-requires
slots_change-q-requires c =
    let p = c.requires in
    (p.0, c.header-h.ensures, p.1)

pub loop-n-init : goal.loop-n-init
loop-n-init c =
    let a = c.args in
    let p = c.requires in
    let n = ap (λ (h : Header). h.roots) c.header-h.ensures in
    let x = c.slots_change-q.ensures in (
      omega arith,
      omega (arith, c.size-size.ensures, (whole (edition c.args.k) a.s.now p.0).six),
      x.0,
      λ i l. x.1 i (omega (arith, l, n)),
      λ m five l. absurd (omega (arith, five, l)),
    )

pub part-requires : goal.part-requires
part-requires c =
    let a = c.args in
    let p = c.requires in (
      part_in (edition c.args.k) a.s.now p.0 c.loop-n.n
          (omega (arith, c.loop-n-test.true, c.size-size.ensures)),
      few (edition c.args.k) a.s.now p.0,
    )

pub page_change-q-requires : goal.page_change-q-requires
page_change-q-requires c =
    let a = c.args in
    let p = c.requires in
    let i = c.loop-n in
    let less : i.n < size_of a.k.least a.s.now = omega (arith, c.loop-n-test.true, c.size-size.ensures) in
    (c.part.ensures.1, rw c.part.ensures.0 (room (edition c.args.k) a.s.now p.0 i.n i.invariant.0 less), i.invariant.2.above)

pub loop-n-preserved : goal.loop-n-preserved
loop-n-preserved c =
    let a = c.args in
    let i = c.loop-n in
    let x = c.page_change-q.ensures in (
      omega (arith, i.invariant.0),
      omega (arith, c.loop-n-test.true),
      record { below = omega (arith, x.0.below, i.invariant.2.below); above = x.0.above },
      slots-less (λ (j : ℕ). (slot_at a.k.least a.s.now j).version) _ a.v i.q c.page_change-q.result i.invariant.3
          x.0.below,
      parts_more a.k.least (λ (m : ℕ). page_of a.k.least a.s.now m) i.n a.v i.q c.page_change-q.result i.invariant.4
          x.0.below (rw c.part.ensures.0 at x.1),
    )

pub returns : goal.returns
returns c =
    let i = c.loop-n in (
      i.invariant.2,
      record {
        slots = i.invariant.3;
        pages = λ m five l. i.invariant.4 m five
            (omega (arith, l, c.loop-n-test.false, c.size-size.ensures));
      },
    )
