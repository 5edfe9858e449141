-- `prune` meets its contract. Assumes nothing.
use Rattle.model.proofs.Edition.{edition}
use native.Mathlib.Omega.{arith}
use mathlib.Core.Path.{ap, sym, ◌∙◌}
use Rattle.model.specs.declared.Header.{Header}
use Rattle.store.proofs.laws.Sure.{few, front}
use Rattle.turn.proofs.laws.Turned.{kept}
use Rattle.prune.proofs.laws.Whole.{roots-are, some-roots, header-right, pages-kept, pages-roots, pruned-bytes}
use Rattle.prune.proofs.prune.Goals as goal

pub header-h-requires : goal.header-h-requires
header-h-requires c =
    let a = c.args in
    let p = c.requires in
    (omega (arith, front (edition c.args.l) a.s.now p.1), few (edition c.args.l) a.s.now p.1)

pub first_needed-k-requires : goal.first_needed-k-requires
first_needed-k-requires c =
    let a = c.args in
    let d = edition c.args.l in
    let two = c.requires.0 in
    let q = c.requires.1 in
    let up = c.requires.2 in
    let k = kept d a.s.now q (λ i. (c.slice_known-1.given i).fits) in
    let e = c.header-h.ensures in
    let r = ap (λ (h : Header). h.roots) e in
    (k, r ∙ roots-are d two a.s.now q k a.v up, omega (arith, r, some-roots d two a.s.now q k a.v up))

pub prune_pages-requires : goal.prune_pages-requires
prune_pages-requires c =
    let a = c.args in
    let d = edition c.args.l in
    let two = c.requires.0 in
    let q = c.requires.1 in
    let up = c.requires.2 in
    let k = kept d a.s.now q (λ i. (c.slice_known-1.given i).fits) in
    let e = c.header-h.ensures in
    (k, ap (λ (h : Header). h.pages) (e ∙ sym k.header))

pub shift_slots-requires : goal.shift_slots-requires
shift_slots-requires c =
    let a = c.args in
    let d = edition c.args.l in
    let two = c.requires.0 in
    let q = c.requires.1 in
    let up = c.requires.2 in
    let k = kept d a.s.now q (λ i. (c.slice_known-1.given i).fits) in
    let e = c.header-h.ensures in
    let r = ap (λ (h : Header). h.roots) e in
    let b = c.prune_pages.ensures in
    let n = c.first_needed-k.ensures in (
      pages-kept d two a.s.now q k a.v up _ b,
      r ∙ pages-roots d two a.s.now q k a.v up _ b,
      omega (arith, r, n.inside, roots-are d two a.s.now q k a.v up),
    )

pub overflow_sub-h : goal.overflow_sub-h
overflow_sub-h c =
    let a = c.args in
    let d = edition c.args.l in
    let two = c.requires.0 in
    let q = c.requires.1 in
    let up = c.requires.2 in
    let k = kept d a.s.now q (λ i. (c.slice_known-1.given i).fits) in
    let e = c.header-h.ensures in
    let r = ap (λ (h : Header). h.roots) e in
    let n = c.first_needed-k.ensures in
    omega (arith, r, n.inside, roots-are d two a.s.now q k a.v up)

pub put_header-requires : goal.put_header-requires
put_header-requires c =
    let a = c.args in
    let d = edition c.args.l in
    let two = c.requires.0 in
    let q = c.requires.1 in
    let up = c.requires.2 in
    let k = kept d a.s.now q (λ i. (c.slice_known-1.given i).fits) in
    let e = c.header-h.ensures in
    let n = c.shift_slots.auto.s ∙ c.prune_pages.auto.s in (
      rw (c.with_oldest.ensures, c.with_roots.ensures, e) (header-right d two a.s.now q k a.v up _ (omega arith)),
      omega (arith, n, front d a.s.now q),
      omega (arith, n, few d a.s.now q),
    )

pub returns : goal.returns
returns c =
    let a = c.args in
    let d = edition c.args.l in
    let two = c.requires.0 in
    let q = c.requires.1 in
    let up = c.requires.2 in
    let k = kept d a.s.now q (λ i. (c.slice_known-1.given i).fits) in
    let e = c.header-h.ensures in
    rw (c.with_oldest.ensures, c.with_roots.ensures, e) at c.put_header.ensures
    ∙ pruned-bytes d two a.s.now q k a.v up _ c.prune_pages.ensures _ c.first_needed-k.ensures _
    c.shift_slots.ensures
