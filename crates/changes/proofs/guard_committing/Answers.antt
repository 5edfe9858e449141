-- `guard_committing` meets its contract. Assumes nothing.
use Rattle.model.proofs.Edition.{edition}
use native.Mathlib.Omega.{arith}
use mathlib.Core.Bool.{Bool}
use mathlib.Core.Path.{ap, sym, ◌∙◌}
use Rattle.model.specs.Basic.{pick}
use Rattle.store.proofs.laws.Refused.{refuses-some, number-err}
use Rattle.store.proofs.laws.Sure.{few, front}
use Rattle.reads.proofs.laws.Guard.{guard-sound}
use Rattle.changes.specs.Turning.{closing}
use Rattle.changes.proofs.laws.Committing.{gives-closing, gives-test, opens}
use Rattle.changes.proofs.guard_committing.Goals as goal

pub returns-in_err-guard_closing : goal.returns-in_err-guard_closing
returns-in_err-guard_closing c =
    let a = c.args in let e = c.in_err-guard_closing in
    number-err _ _ c.from_residual.ensures.1 ∙ e.ensures
    ∙ gives-closing a.l.least a.s.now (λ z. refuses-some e.field-0.0 (e.ensures ∙ z))

pub header-h-requires : goal.header-h-requires
header-h-requires c =
    let d = edition c.args.l in let b = c.args.s.now in
    let h = guard-sound c.args.l.least b closing (sym c.in_ok-guard_closing.ensures) in
    (omega (arith, front d b h), few d b h)

pub unchanged-requires : goal.unchanged-requires
unchanged-requires c =
    opens (edition c.args.l) c.args.s.now (sym c.in_ok-guard_closing.ensures) c.header-h.result c.header-h.ensures

pub returns-then-unchanged : goal.returns-then-unchanged
returns-then-unchanged c =
    let a = c.args in
    sym (ap (λ (x : Bool). pick x 15 0) c.if-unchanged.true)
    ∙ gives-test a.l.least a.s.now (sym c.in_ok-guard_closing.ensures) c.unchanged.result c.unchanged.ensures

pub returns : goal.returns
returns c =
    let a = c.args in
    sym (ap (λ (x : Bool). pick x 15 0) c.if-unchanged.false)
    ∙ gives-test a.l.least a.s.now (sym c.in_ok-guard_closing.ensures) c.unchanged.result c.unchanged.ensures
