-- `under` and `ways_fine` meet their contracts, by what is left: `under` hands on one less than it was given, and no call of `under` has
-- more than `ways_fine`. Assumes nothing.
use Rattle.model.proofs.Edition.{edition}
use Prim.Native.Nat.{◌-◌, ◌+◌, ◌*◌}
use mathlib.Core.Path.{◌≡◌, ap, sym, subst, ◌∙◌}
use native.Mathlib.Omega.{arith}
use lib.Dec.{ltb}
use borrow.Author.Tests.{lt-ltb, le-ltb}
use Rattle.std.specs.Prelude.{Some}
use Rattle.model.specs.Basic.{pick}
use Rattle.model.specs.Layout.{decode, read_entry, read_entries}
use Rattle.spans.specs.Quick.{under as under_of, lasts}
use Rattle.quick.specs.Part.{high_over}
use Rattle.quick.specs.Routers.{entries_at}
use Rattle.notes.proofs.laws.Here.{entries-are, child-here}
use Rattle.quick.proofs.laws.Under.{under-empty, under-leaf, under-start, lasts-step, lasts-end, Leads, way-leads}
use Rattle.quick.proofs.laws.Within.{spent, unspent, fewer, handed, stops}
use Rattle.quick.proofs.under.+under_ways_fine.Goals as goal
use Rattle.quick.proofs.under.+under_ways_fine.Goals.{under-After-high_over, ways_fine-in-Some+else-h-w+in_ok-rest, ways_fine-in_default}

-- ---- a page

pub under-returns-then-b-a : goal.under-returns-then-b-a
under-returns-then-b-a t c =
    let a = c.args in
    (unspent a.left a.a a.b c.if-b-a.true, under-empty a.up (decode a.l.least a.s.now).pages a.h a.a a.b a.n c.if-b-a.true)

pub under-returns-then-up-ne0 : goal.under-returns-then-up-ne0
under-returns-then-up-ne0 t c =
    let a = c.args in let k = c.requires.1 c.if-b-a.false in let ps = (decode a.l.least a.s.now).pages in
    handed (a.left - pick (ltb a.a a.b) 1 0) (a.left - 1) (under_of a.up ps a.h a.a a.b a.n)
    (lasts (under_of (a.up - 1) ps a.h) a.h a.a a.b (entries_at a.l.least a.s.now a.n))
    (spent a.left a.a a.b c.if-b-a.false)
    (under-start a.l.least a.s.now a.n k.1 a.up a.h a.a a.b c.if-up-ne0.true) c.ways_fine.result c.ways_fine.ensures

leaf : (t : _) (c : under-After-high_over t) → let a = c.args in
    under_of a.up (decode a.l.least a.s.now).pages a.h a.a a.b a.n ≡ c.high_over.result
leaf t c =
    let a = c.args in let r = c.requires in let k = r.1 c.if-b-a.false in
    under-leaf a.l.least a.s.now a.n k.1 a.up a.h a.a a.b c.if-up-ne0.false
    ∙ ap (high_over a.h a.a a.b)
    (entries-are (edition c.args.l) a.s.now r.0.linked a.n k.1 c.part-p.result.now c.part-p.ensures c.head_of.result c.head_of.ensures)
    ∙ sym c.high_over.ensures

pub under-returns-then-high_over : goal.under-returns-then-high_over
under-returns-then-high_over t c =
    let a = c.args in
    (spent a.left a.a a.b c.if-b-a.false, leaf t (goal.at.under-returns-then-high_over t c).After-high_over ∙ c.if-high_over.true)

pub under-returns-else-high_over : goal.under-returns-else-high_over
under-returns-else-high_over t c =
    leaf t (goal.at.under-returns-else-high_over t c).After-high_over ∙ c.if-high_over.false

-- ---- its routers

pub ways_fine-returns-then-h-w : goal.ways_fine-returns-then-h-w
ways_fine-returns-then-h-w t c =
    let a = c.args in let ps = (decode a.l.least a.s.now).pages in let j = c.loop-i in let w = c.in-Some.w in
    j.invariant.1 ∙ lasts-step ps a.up c.part-p.result.now j.i c.head_of-count.result.count a.h a.a a.b (Some w) c.in-Some.ensures
    c.loop-i-test.true ∙ rw (le-ltb w.key a.h c.if-h-w.true)

pub ways_fine-under-requires : goal.ways_fine-under-requires
ways_fine-under-requires t c =
    let a = c.args in let r = c.requires in
    let p = c.part-p.result.now in let n = c.head_of-count.result.count in let i = c.loop-i.i in
    let k = subst (Leads a.a (read_entry p (128 + 96 * i))) (sym c.in-Some.ensures)
    (way-leads a.a a.b (read_entry p (128 + 96 * i)) (read_entries p (128 + 96 * (i + 1)) (n - (i + 1)))) in
    let child = child-here (edition c.args.l) a.s.now r.0.linked a.n r.1 p c.part-p.ensures c.head_of-count.result c.head_of-count.ensures i
    c.in-Some.w.page (omega (arith, r.2)) c.loop-i-test.true k.0 in (
      omega (arith, c.loop-i.invariant.0, c.decreases),
      (
        r.0,
        λ lt. let (x, y) = child (omega (arith, k.1 lt, k.2, r.3)) in (omega (arith, k.1 lt, r.3), x, omega (arith, y, r.2)),
      ),
    )

pub ways_fine-returns-in_err-rest : goal.ways_fine-returns-in_err-rest
ways_fine-returns-in_err-rest t c =
    let a = c.args in let ps = (decode a.l.least a.s.now).pages in let j = c.loop-i in let w = c.in-Some.w in
    stops a.left (j.rest - pick (ltb w.from w.upto) 1 0) (lasts (under_of a.up ps a.h) a.h a.a a.b (entries_at a.l.least a.s.now a.n))
    (under_of a.up ps a.h w.from w.upto w.page)
    (λ q. j.invariant.1 ∙ lasts-step ps a.up c.part-p.result.now j.i c.head_of-count.result.count a.h a.a a.b (Some w) c.in-Some.ensures
    c.loop-i-test.true ∙ rw (lt-ltb w.key a.h c.if-h-w.false, q)) c.in_err-rest.field-0.0 c.in_err-rest.ensures
    c.from_residual.result c.from_residual.ensures.1

pub ways_fine-loop-i-preserved : goal.ways_fine-loop-i-preserved
ways_fine-loop-i-preserved t c =
    let a = c.args in let ps = (decode a.l.least a.s.now).pages in let j = c.loop-i in
    elim c.match-way_at.branch [
      | ways_fine-in-Some+else-h-w+in_ok-rest k ↦
          let w = k.in-Some.w in (
            omega (arith, j.invariant.0, k.rest-is, k.in_ok-rest.ensures.0, fewer j.rest (ltb w.from w.upto)),
            j.invariant.1
                ∙ lasts-step ps a.up c.part-p.result.now j.i c.head_of-count.result.count a.h a.a a.b (Some w) k.in-Some.ensures
                c.loop-i-test.true ∙ rw (lt-ltb w.key a.h k.if-h-w.false, k.in_ok-rest.ensures.1),
          )
      | ways_fine-in_default k ↦ (
        omega (arith, j.invariant.0, k.rest-is),
        j.invariant.1
            ∙ lasts-step ps a.up c.part-p.result.now j.i c.head_of-count.result.count a.h a.a a.b c.way_at.result c.way_at.ensures
            c.loop-i-test.true ∙ rw k.in_default.is,
      )
    ]

pub ways_fine-returns : goal.ways_fine-returns
ways_fine-returns t c =
    let a = c.args in let ps = (decode a.l.least a.s.now).pages in let j = c.loop-i in (
      j.invariant.0,
      j.invariant.1 ∙ lasts-end ps a.up c.part-p.result.now j.i c.head_of-count.result.count a.h a.a a.b c.loop-i-test.false,
    )
