-- `abandon` meets its contract. Assumes nothing.
use Rattle.model.proofs.Edition.{edition}
use Prim.Native.Nat.{◌+◌}
use native.Mathlib.Omega.{arith}
use mathlib.Core.Path.{◌≡◌, ap, sym, ◌∙◌}
use Rattle.model.specs.Layout.{decode}
use Rattle.model.specs.Store.{next}
use Rattle.model.specs.declared.Header.{Header}
use Rattle.model.proofs.sound.ByRule.{old-current}
use Rattle.store.proofs.laws.Sure.{sure, few, front, roots}
use Rattle.store.proofs.laws.Header.{header-fits}
use Rattle.store.proofs.laws.Read.{current-of}
use Rattle.turn.proofs.laws.Abandoned.{some-roots, abandoned-bytes}
use Rattle.turn.proofs.laws.Ended.{all_past}
use Rattle.turn.proofs.laws.Turned.{kept, next_low}
use Rattle.turn.proofs.abandon.Goals as goal

pub header-h-requires : goal.header-h-requires
header-h-requires c =
    let a = c.args in (
      omega (arith, front (edition c.args.l) a.s.now c.requires.0),
      few (edition c.args.l) a.s.now c.requires.0,
    )

pub overflow_add-w : goal.overflow_add-w
overflow_add-w c =
    omega (
      arith,
      ap (λ (h : Header). h.current) c.header-h.ensures,
      next_low (edition c.args.l) c.args.s.now c.requires.0,
    )

pub undo_pages-requires : goal.undo_pages-requires
undo_pages-requires c =
    let a = c.args in
    let d = edition c.args.l in
    let k = kept d a.s.now c.requires.0 (λ i. (c.slice_known-1.given i).fits) in
    let sound = sure d a.s.now c.requires.0 in
    let e = ap (λ (h : Header). h.current) c.header-h.ensures in (
      omega arith,
      omega (arith, e, next_low d a.s.now c.requires.0),
      k,
      ap (λ (h : Header). h.pages) (c.header-h.ensures ∙ sym k.header),
      all_past a.l.least (decode a.l.least a.s.now) sound _
          (omega (
            arith,
            e,
            current-of a.l.least a.s.now,
            old-current a.l.least (decode a.l.least a.s.now) sound.old-low,
          )) (omega (arith, e, current-of a.l.least a.s.now)),
    )

pub drop_slot-roots-requires : goal.drop_slot-roots-requires
drop_slot-roots-requires c =
    let a = c.args in
    let d = edition c.args.l in
    let k = kept d a.s.now c.requires.0 (λ i. (c.slice_known-1.given i).fits) in
    let e = ap (λ (h : Header). h.roots) c.header-h.ensures in
    let n = c.undo_pages.auto.s in (
      omega (arith, e, some-roots d a.s.now c.requires.0 k),
      omega (arith, e, roots d a.s.now c.requires.0),
      omega (arith, n, front d a.s.now c.requires.0),
      omega (arith, n, few d a.s.now c.requires.0),
    )

pub put_header-requires : goal.put_header-requires
put_header-requires c =
    let a = c.args in
    let d = edition c.args.l in
    let f = header-fits a.l.least a.s.now in
    let n = c.drop_slot-roots.auto.s ∙ c.undo_pages.auto.s in (
      rw (c.with_flag.ensures, c.with_roots.ensures, c.header-h.ensures)
          (record {
            pages = f.pages;
            current = f.current;
            roots = omega (
              arith,
              c.drop_slot-roots.ensures.fewer,
              ap (λ (h : Header). h.roots) c.header-h.ensures,
              f.roots,
            );
            oldest = f.oldest;
          }),
      omega (arith, n, front d a.s.now c.requires.0),
      omega (arith, n, few d a.s.now c.requires.0),
    )

pub returns : goal.returns
returns c =
    let a = c.args in
    let d = edition c.args.l in
    let k = kept d a.s.now c.requires.0 (λ i. (c.slice_known-1.given i).fits) in
    let e = ap (λ (h : Header). h.current) c.header-h.ensures in
    let q : c.header-h.result.current + 1 ≡ next (decode a.l.least a.s.now)
    = omega (arith, e, ap (λ (h : Header). h.current) k.header) in
    rw (c.with_flag.ensures, c.with_roots.ensures, c.header-h.ensures) at
    c.put_header.ensures
    ∙ abandoned-bytes d a.s.now c.requires.0 k c.requires.1 (c.header-h.result.current + 1) q
    (omega (arith, e, next_low d a.s.now c.requires.0)) _ _ _ c.undo_pages.ensures
    (rw (ap (λ (h : Header). h.roots) c.header-h.ensures) at c.drop_slot-roots.ensures)
