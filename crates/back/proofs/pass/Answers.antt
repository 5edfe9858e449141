-- `pass` meets its contract. Assumes nothing.
use Rattle.model.specs.declared.Delta.{Delta}
use Rattle.model.specs.Layout.{decode}
use Rattle.differ.specs.Listing.{left_of}
use Rattle.back.proofs.laws.Going.{going-open, going-old}
use Rattle.back.specs.Pass.{passed}
use Rattle.back.proofs.laws.Pass.{pass-start, pass_on, pass-goes, pass-stops, pass-end}
use mathlib.Core.Path.{◌≡◌, refl, ap, ◌∙◌}
use mathlib.Core.List.{List}
use native.Mathlib.Omega.{arith}
use Rattle.std.proofs.lemmas.Result.{err_from_is_err_and}
use Rattle.store.proofs.laws.Refused.{refuses-some}
use Rattle.back.proofs.pass.Goals as goal
use Rattle.back.proofs.pass.Goals.{After-act}

pub loop-key-init : goal.loop-key-init
loop-key-init c = (omega arith, c.requires, pass-start c.requires c.args.insert, refl)

pub onward-g-requires : goal.onward-g-requires
onward-g-requires c = let g = c.loop-key.invariant.1 in (going-open g, going-old g, omega (arith, c.loop-key-test.true))

pub next-d-requires : goal.next-d-requires
next-d-requires c = let g = c.loop-key.invariant.1 in (going-open g, going-old g)

pub act-requires : goal.act-requires
act-requires c = (c.loop-key.invariant.1, c.onward-g.ensures.0.high, c.next-d.ensures)

-- nothing is passed over that is asked for
passes_over : (c : After-act) →
    let l = c.loop-key in let a = c.args in
    passed a.insert a.l.least (left_of a.l l.s a.w a.v l.key) (decode a.l.least l.s)
    ≡ passed a.insert a.l.least (left_of a.l l.s a.w a.v c.onward-g.result.key) (decode a.l.least l.s)
passes_over c =
    let l = c.loop-key in let a = c.args in
    ap (λ (ds : List Delta). passed a.insert a.l.least ds (decode a.l.least l.s)) c.onward-g.ensures.1

pub returns-in_err-act : goal.returns-in_err-act
returns-in_err-act c =
    let l = c.loop-key in
    let t = c.in_err-act.ensures in
    let p = c.onward-g in
    let q = err_from_is_err_and c.from_residual.result c.from_residual.ensures.1 in
    rw (q.1, q.2)
    (record {
      going = t.went.going;
      goes = λ z. absurd (refuses-some c.in_err-act.field-0.0 z);
      stops = λ z. l.invariant.2 ∙ passes_over (goal.at.returns-in_err-act c).After-act
          ∙ pass-stops l.invariant.1 p.result.key p.ensures.0.high c.next-d.result c.next-d.ensures
          c.args.insert _ _ t z;
    })

pub overflow_add-key : goal.overflow_add-key
overflow_add-key c =
    let p = c.onward-g in
    let o = pass_on c.loop-key.invariant.1 p.result.key p.ensures.0.high c.next-d.result c.next-d.ensures in
    omega (arith, o.high)

pub loop-key-smaller : goal.loop-key-smaller
loop-key-smaller c =
    let p = c.onward-g in
    let o = pass_on c.loop-key.invariant.1 p.result.key p.ensures.0.high c.next-d.result c.next-d.ensures in
    omega (arith, o.low, o.high, p.ensures.0.low, c.loop-key-test.true)

pub loop-key-preserved : goal.loop-key-preserved
loop-key-preserved c =
    let l = c.loop-key in
    let p = c.onward-g in
    let t = c.in_ok-act.ensures in
    let o = pass_on l.invariant.1 p.result.key p.ensures.0.high c.next-d.result c.next-d.ensures in (
      omega (arith, o.high),
      t.went.going,
      l.invariant.2 ∙ passes_over (goal.at.loop-key-preserved c).After-act
          ∙ pass-goes l.invariant.1 p.result.key p.ensures.0.high c.next-d.result c.next-d.ensures
          c.args.insert _ _ t refl,
      c.act.auto.s ∙ l.invariant.3,
    )

pub returns : goal.returns
returns c =
    let l = c.loop-key in
    record {
      going = l.invariant.1;
      goes = λ z. l.invariant.2 ∙ pass-end l.invariant.1 c.args.insert l.key c.loop-key-test.false;
      stops = λ z. absurd (z refl);
    }
