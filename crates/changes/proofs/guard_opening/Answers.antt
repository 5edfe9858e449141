-- `guard_opening` meets its contract. Assumes nothing.
use Rattle.model.proofs.Edition.{edition}
use native.Mathlib.Omega.{arith}
use mathlib.Core.Path.{sym, ◌∙◌}
use Rattle.model.proofs.sound.Judging.{zero-sound}
use Rattle.store.proofs.laws.Refused.{number-err}
use Rattle.store.proofs.laws.Sure.{few, front}
use Rattle.reads.proofs.laws.Guard.{judge-refused}
use Rattle.changes.specs.Turning.{opening}
use Rattle.changes.proofs.laws.Turning.{gives-eight, gives-nine, gives-open}
use Rattle.changes.proofs.guard_opening.Goals as goal

pub returns-in_err-judge : goal.returns-in_err-judge
returns-in_err-judge c =
    let a = c.args in
    number-err _ _ c.from_residual.ensures.1 ∙ judge-refused a.l.least a.s.now opening _ c.in_err-judge.ensures

pub header-h-requires : goal.header-h-requires
header-h-requires c =
    let d = edition c.args.l in let b = c.args.s.now in
    let h = zero-sound c.args.l.least b (sym c.in_ok-judge.ensures) in
    (omega (arith, front d b h), few d b h)

pub returns-then-h : goal.returns-then-h
returns-then-h c =
    let a = c.args in let h = c.header-h in
    gives-eight a.l.least a.s.now (sym c.in_ok-judge.ensures) h.result h.ensures c.if-h.true

pub returns-then-h-ge-LAST : goal.returns-then-h-ge-LAST
returns-then-h-ge-LAST c =
    let a = c.args in let h = c.header-h in
    gives-nine a.l.least a.s.now (sym c.in_ok-judge.ensures) h.result h.ensures c.if-h.false c.if-h-ge-LAST.true

pub returns : goal.returns
returns c =
    let a = c.args in let h = c.header-h in
    gives-open a.l.least a.s.now (sym c.in_ok-judge.ensures) h.result h.ensures c.if-h.false c.if-h-ge-LAST.false
