-- `guard_reading` meets its contract. Assumes nothing.
use mathlib.Core.Path.{sym, ◌∙◌}
use Rattle.model.proofs.sound.Judging.{zero-sound}
use Rattle.store.proofs.laws.Refused.{number-err}
use Rattle.reads.specs.Reading.{reading}
use Rattle.reads.proofs.laws.Guard.{judge-refused, chain-number}
use Rattle.reads.proofs.guard_reading.Goals as goal

pub returns-in_err-judge : goal.returns-in_err-judge
returns-in_err-judge c =
    let a = c.args in
    number-err _ _ c.from_residual.ensures.1 ∙ judge-refused a.l.least a.s.now (reading a.bad a.v) _ c.in_err-judge.ensures

pub guard_sound-requires : goal.guard_sound-requires
guard_sound-requires c = (zero-sound c.args.l.least c.args.s.now (sym c.in_ok-judge.ensures))

pub returns : goal.returns
returns c =
    let a = c.args in
    c.guard_sound.ensures ∙ chain-number a.l.least a.s.now (reading a.bad a.v) (sym c.in_ok-judge.ensures)
