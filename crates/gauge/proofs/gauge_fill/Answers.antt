use Prim.Native.Nat.{ℕ}
use mathlib.Core.Path.{refl, ap, sym, ◌∙◌}
use native.Mathlib.Omega.{arith}
use borrow.Author.Tests.{not-true, not-false}
use lib.ListN.{length}
use Rattle.gauge.proofs.laws.Gauge.{fillable, fitting-all, filled-four}
use Rattle.model.proofs.Edition.{edition}
use borrow.Author.Rules.{rules}
use Rattle.gauge.proofs.gauge_fill.Goals as goal

pub returns-then-not-fill_fits : goal.returns-then-not-fill_fits
returns-then-not-fill_fits c =
    let e = sym c.fill_fits.ensures ∙ not-true _ c.if-not-fill_fits.true-raw in record {
      number = rw e (refl);
      bytes = rw e (refl);
    }

pub fill-requires : goal.fill-requires
fill-requires c =
    let a = c.args in
    let d = edition c.edition_one.result in
    let l = c.edition_one.ensures.one in
    let f = fillable (length a.page.now) a.w a.key a.n
    (sym c.fill_fits.ensures ∙ not-false _ c.if-not-fill_fits.false-raw) in (
      omega (arith, f.page, l),
      omega arith,
      omega (arith, f.version),
      omega (arith, f.room, d.four),
      omega (arith, f.room),
      λ (k : ℕ). fitting-all a.key a.value k 56 (omega (arith, f.low)) (omega arith),
    )

pub returns : goal.returns
returns c =
    let a = c.args in
    let l = c.edition_one.ensures.one in
    let e = sym c.fill_fits.ensures ∙ not-false _ c.if-not-fill_fits.false-raw in record {
      number = rw e (refl);
      bytes = rw e (c.fill.ensures ∙ filled-four a.w a.key a.value a.n
          c.edition_one.result.least l);
    }
