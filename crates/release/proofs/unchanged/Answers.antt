-- `unchanged` meets its contract: what is asked of all pages is asked of those from n on. Assumes nothing.
use native.Mathlib.Omega.{arith}
use mathlib.Core.Path.{ap, sym, ◌∙◌}
use Rattle.model.specs.declared.Header.{Header}
use Rattle.model.specs.Layout.{decode}
use Rattle.store.proofs.laws.Sure.{few, front}
use Rattle.release.proofs.laws.Opened.{size_is, header-size, whole_is}
use Rattle.release.proofs.laws.Places.{from-stops, from_goes, from-done}
use Rattle.release.proofs.unchanged.Goals as goal

pub header-size-requires : goal.header-size-requires
header-size-requires c =
    let o = c.requires in
    let b = c.args.s.now in
    (omega (arith, front o.edition b o.sound), few o.edition b o.sound)

pub loop-n-init : goal.loop-n-init
loop-n-init c =
    let o = c.requires in (
      ap (λ (h : Header). h.pages) c.header-size.ensures
          ∙ header-size o (λ i. (c.shared_slice_known-1.given i).fits),
      omega arith,
      sym (whole_is o),
    )

pub page_settled-requires : goal.page_settled-requires
page_settled-requires c =
    let o = c.requires in
    (o, c.loop-n.invariant.1, omega (arith, size_is o, c.loop-n.invariant.0))

pub returns-then-not-page_settled : goal.returns-then-not-page_settled
returns-then-not-page_settled c =
    let a = c.args in
    let l = c.loop-n in
    sym (l.invariant.2 ∙ from-stops (decode a.l.least a.s.now) l.n (omega (arith, l.invariant.0)) _ c.page_settled.ensures
    c.if-not-page_settled.true)

pub loop-n-preserved : goal.loop-n-preserved
loop-n-preserved c =
    let a = c.args in
    let l = c.loop-n in (
      l.invariant.0,
      omega (arith, l.invariant.1),
      l.invariant.2
          ∙ from_goes (decode a.l.least a.s.now) l.n (omega (arith, l.invariant.0)) _ c.page_settled.ensures
          c.if-not-page_settled.false,
    )

pub returns : goal.returns
returns c =
    let a = c.args in
    let l = c.loop-n in
    sym (l.invariant.2 ∙ from-done (decode a.l.least a.s.now) l.n (omega (arith, l.invariant.0)))
