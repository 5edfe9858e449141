-- `next` and `visit` meet their contracts, by how many levels are below: a page's entries are read at the page's own level, and each
-- one's page a level lower. Assumes nothing.
use Rattle.model.proofs.Edition.{edition}
use mathlib.Core.Path.{◌≡◌, refl, ap, sym, ◌∙◌, subst}
use native.Mathlib.Omega.{arith}
use borrow.Author.Tests.{not-true, not-false}
use Rattle.model.specs.Layout.{decode, read_entries}
use Rattle.page.specs.Read.{FieldsFit}
use Rattle.page.proofs.laws.Read.{read-sized}
use Rattle.notes.specs.declared.Note.{Note}
use Rattle.notes.specs.Notes.{nothing, row}
use Rattle.notes.proofs.laws.Here.{few, entries-start, leads-here}
use Rattle.model.specs.Entry.{live_at}
use Rattle.notes.specs.Kept.{kids_at}
use Rattle.notes.proofs.laws.Kept.{kid_if, below-leaf, below-dead, below-live, leads-on, known_is, note-row, step-kid, row-end, row_next}
use Rattle.notes.proofs.laws.Kept.{row-stops, live-next, kept-away, kept-after, entries-here, height-here}
use Prim.Native.Nat.{◌+◌, ◌*◌, ◌-◌}
use Rattle.notes.proofs.visit.+next_visit.Goals as goal
use Rattle.notes.proofs.visit.+next_visit.Goals.{next-then-up-eq0-via-then-up-eq0, next-then-up-eq0-via-else-up-eq0+then-not-alive_at}

-- ---- one more entry

pub next-returns-then-up-eq0 : goal.next-returns-then-up-eq0
next-returns-then-up-eq0 t c =
    let a = c.args in let r = c.requires in let ps = (decode a.l.least a.s.now).pages in
    let none : nothing ≡ kid_if (live_at a.v a.e) (kids_at a.l.least a.up ps a.v a.e.value) = elim c.then-up-eq0.branch [
      | next-then-up-eq0-via-then-up-eq0 w ↦ sym (below-leaf a.l.least a.up ps a.v a.e w.if-up-eq0.true)
      | next-then-up-eq0-via-else-up-eq0+then-not-alive_at w ↦ sym (below-dead a.l.least a.up ps a.v a.e
          (sym w.alive_at.ensures ∙ w.if-not-alive_at.true))
    ] in
    (step-kid a.l.least a.up a.v ps a.x c.step.result c.nothing.result a.e (c.nothing.ensures ∙ none) c.step.ensures, r.2)

pub next-returns-then-v-known : goal.next-returns-then-v-known
next-returns-then-v-known t c =
    let a = c.args in let r = c.requires in
    let (x, y) = leads-on a.l.least a.s.now a.v a.up a.e.value a.e r.1 refl
    c.if-up-eq0.false (sym c.alive_at.ensures ∙ c.if-not-alive_at.false) in (
      step-kid a.l.least a.up a.v (decode a.l.least a.s.now).pages a.x c.step-then-v-known.result
          c.note_at-known.result
          a.e (known_is a.l.least (a.up - 1) (decode a.l.least a.s.now).pages a.v a.e.value
          a.notes.now c.note_at-known.result r.2 (omega (arith, x.1, r.0.most))
          (height-here a.l.least a.s.now a.e.value x (a.up - 1) y) c.note_at-known.ensures
          c.if-v-known.true
          ∙ sym (below-live a.l.least a.up (decode a.l.least a.s.now).pages a.v a.e a.e.value
          (sym c.alive_at.ensures ∙ c.if-not-alive_at.false) c.if-up-eq0.false
          refl)) c.step-then-v-known.ensures,
      r.2,
    )

pub next-visit-made-requires : goal.next-visit-made-requires
next-visit-made-requires t c =
    let a = c.args in let r = c.requires in
    let (x, y) = leads-on a.l.least a.s.now a.v a.up a.e.value a.e r.1 refl
    c.if-up-eq0.false (sym c.alive_at.ensures ∙ c.if-not-alive_at.false) in (
      omega (arith, c.if-up-eq0.false, c.decreases),
      (
        r.0,
        x,
        y,
        kept-away a.l.least (decode a.l.least a.s.now).pages a.v _ _ _ _
            c.put_away.ensures r.2,
        r.5,
      ),
    )

pub next-returns : goal.next-returns
next-returns t c =
    let a = c.args in let r = c.requires in (
      step-kid a.l.least a.up a.v (decode a.l.least a.s.now).pages a.x c.step-2.result c.visit-made.result
          a.e (c.visit-made.ensures.0 ∙ sym
          (below-live a.l.least a.up (decode a.l.least a.s.now).pages a.v a.e a.e.value
          (sym c.alive_at.ensures ∙ c.if-not-alive_at.false) c.if-up-eq0.false
          refl)) c.step-2.ensures,
      c.visit-made.ensures.1,
    )

-- ---- a page

pub visit-loop-i-init : goal.visit-loop-i-init
visit-loop-i-init t c =
    let a = c.args in let r = c.requires in let q = c.nothing-x.ensures in
    let live : c.nothing-x.result.live ≡ 0 = ap (λ (x : Note). x.live) q in (
      ap (λ (x : Note). x.keys) q,
      omega arith,
      r.3,
      note-row a.l.least a.up (decode a.l.least a.s.now).pages a.v a.n
          ∙ ap (row a.l.least a.up a.v (kids_at a.l.least a.up (decode a.l.least a.s.now).pages a.v) nothing)
          (entries-here a.l.least a.s.now a.n r.1
          ∙ entries-start (edition c.args.l) a.s.now r.0 a.n r.1 c.part-p.result.now c.part-p.ensures
          c.head_of-h.result c.head_of-h.ensures)
          ∙ ap (λ (x : Note). row a.l.least a.up a.v
          (kids_at a.l.least a.up (decode a.l.least a.s.now).pages a.v) x
          (read_entries c.part-p.result.now (128 + 96 * 0) (c.head_of-h.result.count - 0))) (sym q),
    )

pub visit-next-x-requires : goal.visit-next-x-requires
visit-next-x-requires t c =
    let a = c.args in let r = c.requires in
    let z = subst FieldsFit (sym c.entry_at-e.ensures)
    (read-sized c.part-p.result.now (128 + 96 * c.loop-i.i)) in (
      omega (arith, c.decreases),
      (
        r.0,
        leads-here (edition c.args.l) a.s.now r.0 a.n r.1 c.part-p.result.now c.part-p.ensures
            c.head_of-h.result c.head_of-h.ensures c.loop-i.i a.v a.up c.entry_at-e.result
            r.4 r.2 c.loop-i-test.true c.entry_at-e.ensures,
        c.loop-i.invariant.2,
        omega (
          arith,
          c.loop-i.invariant.1,
          c.loop-i-test.true,
          few (edition c.args.l) a.s.now r.0 a.n r.1 c.part-p.result.now c.part-p.ensures c.head_of-h.result
              c.head_of-h.ensures,
        ),
        z.key,
        r.4,
      ),
    )

pub visit-shape_of-notes-then-not-x : goal.visit-shape_of-notes-then-not-x
visit-shape_of-notes-then-not-x t c = c.next-x.ensures.1.long ∙ sym c.requires.3.long

pub visit-returns-then-not-x : goal.visit-returns-then-not-x
visit-returns-then-not-x t c =
    let a = c.args in let r = c.requires in (
      sym (c.loop-i.invariant.3 ∙ row-stops a.l.least a.up a.v (decode a.l.least a.s.now).pages c.loop-i.x
          c.next-x.result c.entry_at-e.result c.part-p.result.now c.loop-i.i
          c.head_of-h.result.count c.entry_at-e.ensures c.next-x.ensures.0 c.loop-i-test.true
          c.loop-i.invariant.0 (not-true c.next-x.result.keys c.if-not-x.true)),
      c.next-x.ensures.1,
    )

pub visit-loop-i-preserved : goal.visit-loop-i-preserved
visit-loop-i-preserved t c =
    let a = c.args in let r = c.requires in (
      not-false c.next-x.result.keys c.if-not-x.false,
      live-next a.l.least a.up a.v (decode a.l.least a.s.now).pages c.loop-i.x c.next-x.result
          c.entry_at-e.result c.part-p.result.now c.loop-i.i c.head_of-h.result.count
          c.entry_at-e.ensures c.next-x.ensures.0 c.loop-i.invariant.1,
      c.next-x.ensures.1,
      c.loop-i.invariant.3 ∙ row_next a.l.least a.up a.v (decode a.l.least a.s.now).pages c.loop-i.x
          c.next-x.result c.entry_at-e.result c.part-p.result.now c.loop-i.i
          c.head_of-h.result.count c.entry_at-e.ensures c.next-x.ensures.0 c.loop-i-test.true,
    )

pub visit-shape_of-notes : goal.visit-shape_of-notes
visit-shape_of-notes t c = c.put.auto.notes ∙ c.loop-i.invariant.2.long ∙ sym c.requires.3.long

pub visit-returns : goal.visit-returns
visit-returns t c =
    let a = c.args in let r = c.requires in
    let e = (sym (c.loop-i.invariant.3 ∙ row-end a.l.least a.up a.v
    (kids_at a.l.least a.up (decode a.l.least a.s.now).pages a.v) c.loop-i.x c.part-p.result.now
    c.loop-i.i c.head_of-h.result.count c.loop-i-test.false)) in (
      e,
      kept-after a.l.least a.up (decode a.l.least a.s.now).pages a.v a.n c.loop-i.x c.loop-i.notes
          c.put.new.notes c.loop-i.invariant.2 (omega (arith, r.1.1, r.0.most))
          (height-here a.l.least a.s.now a.n r.1 a.up r.2) c.loop-i.invariant.0 e c.put.ensures,
    )
