-- `guard_pruning` meets its contract. Assumes nothing.
use Rattle.model.proofs.Edition.{edition}
use native.Mathlib.Omega.{arith}
use mathlib.Core.Path.{sym, ◌∙◌}
use Rattle.model.proofs.sound.Judging.{zero-sound}
use Rattle.store.proofs.laws.Refused.{number-err}
use Rattle.store.proofs.laws.Sure.{few, front}
use Rattle.reads.proofs.laws.Guard.{judge-refused}
use Rattle.changes.specs.Pruning.{pruning}
use Rattle.changes.proofs.laws.Pruning.{gives-six, gives-eight, gives_none}
use Rattle.changes.proofs.pruning.guard_pruning.Goals as goal

pub returns-in_err-judge : goal.returns-in_err-judge
returns-in_err-judge c =
    let a = c.args in
    number-err _ _ c.from_residual.ensures.1 ∙ judge-refused a.l.least a.s.now (pruning a.v) _ c.in_err-judge.ensures

pub header-h-requires : goal.header-h-requires
header-h-requires c =
    let d = edition c.args.l in let b = c.args.s.now in
    let h = zero-sound c.args.l.least b (sym c.in_ok-judge.ensures) in
    (omega (arith, front d b h), few d b h)

pub returns-then-uncommitted : goal.returns-then-uncommitted
returns-then-uncommitted c =
    let a = c.args in let h = c.header-h in
    gives-six a.l.least a.s.now a.v (sym c.in_ok-judge.ensures) h.result h.ensures (sym c.uncommitted.ensures ∙ c.if-uncommitted.true)

pub returns-then-h : goal.returns-then-h
returns-then-h c =
    let a = c.args in let h = c.header-h in
    gives-eight a.l.least a.s.now a.v (sym c.in_ok-judge.ensures) h.result h.ensures
    (sym c.uncommitted.ensures ∙ c.if-uncommitted.false) c.if-h.true

pub returns : goal.returns
returns c =
    let a = c.args in let h = c.header-h in
    gives_none a.l.least a.s.now a.v (sym c.in_ok-judge.ensures) h.result h.ensures
    (sym c.uncommitted.ensures ∙ c.if-uncommitted.false) c.if-h.false
