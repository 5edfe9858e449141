use Rattle.model.proofs.Edition.{edition}
use Rattle.local.specs.Local.{level_at}
use Rattle.quick.proofs.laws.Sums.{page-by}
use Rattle.notes.proofs.laws.Here.{front-is, level-is, few, stands_here, page-here}
use Rattle.model.specs.Layout.{page_of, read_entry}
use borrow.Author.Tests.{le-leb, lt-leb}
use Prim.Native.Nat.{◌+◌, ◌*◌, ◌≤◌}
use mathlib.Core.Path.{refl, sym, ◌∙◌}
use native.Mathlib.Omega.{arith}
use Rattle.quick.proofs.sums.add_page.Goals as goal

pub returns-then-h-le1 : goal.returns-then-h-le1
returns-then-h-le1 c =
    let a = c.args in
    sym (page-by a.l.least a.old (page_of a.l.least a.s.now a.n) c.head_of-h.result
    (front-is (edition c.args.l) a.s.now c.requires.0.linked a.n c.requires.1 c.part-p.result.now
    c.part-p.ensures c.head_of-h.result c.head_of-h.ensures) a.sums.now
    ∙ rw (le-leb c.head_of-h.result.level 1 c.if-h-le1.true))

pub add_entries-requires : goal.add_entries-requires
add_entries-requires c =
    let a = c.args in let r = c.requires in let p = c.part-p.result.now in let h = c.head_of-h.result in
    let u : 2 ≤ level_at a.l.least a.s.now a.n
    = omega (
      arith,
      level-is (edition c.args.l) a.s.now r.0.linked a.n r.1 p c.part-p.ensures h c.head_of-h.ensures,
      c.if-h-le1.false,
    ) in (
      stands_here (edition c.args.l) a.s.now r.0.linked a.n r.1 p c.part-p.ensures h c.head_of-h.ensures,
      few (edition c.args.l) a.s.now r.0.linked a.n r.1 p c.part-p.ensures h c.head_of-h.ensures,
      r.2,
      λ i lt. omega (
        arith,
        r.0.linked.most,
        (page-here (edition c.args.l) a.s.now r.0.linked a.n r.1 p c.part-p.ensures h
            c.head_of-h.ensures i (read_entry p (128 + 96 * i)).value u lt refl).1,
      ),
    )

pub returns : goal.returns
returns c =
    let a = c.args in
    c.add_entries.ensures ∙ sym
    (page-by a.l.least a.old (page_of a.l.least a.s.now a.n) c.head_of-h.result
    (front-is (edition c.args.l) a.s.now c.requires.0.linked a.n c.requires.1 c.part-p.result.now
    c.part-p.ensures c.head_of-h.result c.head_of-h.ensures) a.sums.now
    ∙ rw (lt-leb c.head_of-h.result.level 1 c.if-h-le1.false, ← c.part-p.ensures.0))
