-- `pass` meets its contract. Assumes nothing.
use Rattle.model.specs.declared.Delta.{Delta}
use Rattle.model.specs.Layout.{decode}
use Rattle.differ.specs.Merge.{Onward}
use Rattle.back.specs.Pass.{passed}
use Rattle.convert.specs.Ready.{shown}
use Rattle.convert.specs.Due.{Due}
use Rattle.convert.proofs.laws.Pass.{pass-start, due-start, pass_on, asks, pass-goes, pass-due, pass-stops, pass-end}
use mathlib.Core.Path.{refl, ap, subst, ◌∙◌}
use mathlib.Core.List.{List}
use native.Mathlib.Omega.{arith}
use Rattle.std.proofs.lemmas.Result.{err_from_is_err_and}
use Rattle.store.proofs.laws.Refused.{refuses-some}
use Rattle.convert.proofs.pass.Goals as goal
use Rattle.convert.proofs.pass.Goals.{After-next-d}

pub loop-key-init : goal.loop-key-init
loop-key-init c =
    let a = c.args in
    let p = c.requires in (
      omega arith,
      p.2,
      due-start p.0 p.1 a.l a.t.now a.insert p.3,
      pass-start p.0 p.1 a.l a.t.now a.insert,
      refl,
    )

pub onward-g-requires : goal.onward-g-requires
onward-g-requires c =
    let p = c.requires in
    (p.0, p.1, omega (arith, c.loop-key-test.true))

pub next-d-requires : goal.next-d-requires
next-d-requires c =
    let p = c.requires in
    (p.0, p.1)

pub act-requires : goal.act-requires
act-requires c =
    let i = c.loop-key in
    let o = c.onward-g in
    let d = c.next-d in
    let a = c.args in
    let p = c.requires in
    let e = o.ensures.1 in
    let q = subst (Due a.insert (shown a.l i.t)) e i.invariant.2 in
    (i.invariant.1, asks p.0 p.1 a.l i.t a.insert i.invariant.1 o.result.key o.ensures.0.high d.result d.ensures q)

pub returns-in_err-act : goal.returns-in_err-act
returns-in_err-act c =
    let r = err_from_is_err_and c.from_residual.result c.from_residual.ensures.1 in
    let i = c.loop-key in
    let o = c.onward-g in
    let d = c.next-d in
    let a = c.args in
    let p = c.requires in
    let e = o.ensures.1 in
    let q = subst (Due a.insert (shown a.l i.t)) e i.invariant.2 in
    let t = c.in_err-act.ensures in
    rw (r.1, r.2)
    (record {
      ready = t.ready;
      goes = λ z. absurd (refuses-some c.in_err-act.field-0.0 z);
      stops = λ z. i.invariant.3 ∙ ap (λ (ds : List Delta). passed a.insert a.l.least ds (decode a.l.least i.t)) e
          ∙ pass-stops p.0 p.1 a.l i.t a.insert i.invariant.1 o.result.key o.ensures.0.high d.result
          d.ensures q _ _ t z;
    })

-- the key that is found next
next-on : (c : After-next-d) → Onward c.onward-g.result.key c.next-d.result.key
next-on c =
    let a = c.args in
    let p = c.requires in
    let i = c.loop-key in
    let o = c.onward-g in
    pass_on p.0 p.1 a.l i.t a.insert i.invariant.1 o.result.key o.ensures.0.high c.next-d.result c.next-d.ensures

pub overflow_add-key : goal.overflow_add-key
overflow_add-key c = omega (arith, (next-on (goal.at.overflow_add-key c).After-next-d).high)

pub loop-key-smaller : goal.loop-key-smaller
loop-key-smaller c =
    let n = next-on (goal.at.loop-key-smaller c).After-next-d in
    omega (arith, n.low, n.high, c.onward-g.ensures.0.low, c.loop-key-test.true)

pub loop-key-preserved : goal.loop-key-preserved
loop-key-preserved c =
    let i = c.loop-key in
    let o = c.onward-g in
    let d = c.next-d in
    let a = c.args in
    let p = c.requires in
    let e = o.ensures.1 in
    let q = subst (Due a.insert (shown a.l i.t)) e i.invariant.2 in
    let t = c.in_ok-act.ensures in (
      omega (arith, (next-on (goal.at.loop-key-preserved c).After-next-d).high),
      t.ready,
      pass-due p.0 p.1 a.l i.t a.insert i.invariant.1 o.result.key o.ensures.0.high d.result
          d.ensures q _ _ t refl,
      i.invariant.3 ∙ ap (λ (ds : List Delta). passed a.insert a.l.least ds (decode a.l.least i.t)) e
          ∙ pass-goes p.0 p.1 a.l i.t a.insert i.invariant.1 o.result.key o.ensures.0.high d.result
          d.ensures q _ _ t refl,
      c.act.auto.t ∙ i.invariant.4,
    )

pub returns : goal.returns
returns c =
    let i = c.loop-key in
    let a = c.args in
    let p = c.requires in
    record {
      ready = i.invariant.1;
      goes = λ z. i.invariant.3 ∙ pass-end p.0 p.1 a.l i.t a.insert i.key c.loop-key-test.false;
      stops = λ z. absurd (z refl);
    }
