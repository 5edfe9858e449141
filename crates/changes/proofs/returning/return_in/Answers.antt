-- `return_in` meets its contract. Assumes nothing.
use Rattle.model.proofs.Edition.{edition}
use mathlib.Core.Path.{refl, ap, sym, ◌∙◌}
use Rattle.store.proofs.laws.Refused.{refuses-some, leaving-err}
use native.Mathlib.Omega.{arith}
use Rattle.model.specs.declared.Header.{Header}
use Rattle.store.proofs.laws.Read.{current-lt}
use Rattle.store.proofs.laws.Sure.{few, front}
use Rattle.reads.proofs.laws.Guard.{guard-sound}
use Rattle.changes.specs.Returning.{returning}
use Rattle.changes.proofs.laws.Returning.{return_refused, return-done, goes_back}
use Rattle.changes.proofs.returning.return_in.Goals as goal

pub returns-in_err-guard_returning : goal.returns-in_err-guard_returning
returns-in_err-guard_returning c =
    let a = c.args in let e = c.in_err-guard_returning in
    leaving-err _ a.s.now _ c.from_residual.ensures.1 ∙ return_refused a.l.least a.s.now a.v _ e.ensures (refuses-some e.field-0.0)

pub header-h-requires : goal.header-h-requires
header-h-requires c =
    let d = edition c.args.l in let b = c.args.s.now in
    let h = guard-sound c.args.l.least b (returning c.args.v) (sym c.in_ok-guard_returning.ensures) in
    (omega (arith, front d b h), few d b h)

pub overflow_add-h : goal.overflow_add-h
overflow_add-h c =
    let a = c.args in
    omega (arith, current-lt a.l.least a.s.now, ap (λ (h : Header). h.current) c.header-h.ensures)

pub return_to-requires : goal.return_to-requires
return_to-requires c =
    goes_back (edition c.args.l) c.args.s.now c.args.v (sym c.in_ok-guard_returning.ensures) c.header-h.result c.header-h.ensures

pub returns : goal.returns
returns c =
    let a = c.args in let r = c.in_ok-guard_returning.ensures in
    let g = goes_back (edition c.args.l) a.s.now a.v (sym r) c.header-h.result c.header-h.ensures in
    let u = c.return_to.ensures in
    return-done a.l.least a.s.now a.v 0 r refl _ g.is-next _ _ u.number u.bytes
