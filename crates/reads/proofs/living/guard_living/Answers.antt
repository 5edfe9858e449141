-- `guard_living` meets its contract. Assumes nothing.
use mathlib.Core.Path.{sym, ◌∙◌}
use Rattle.store.proofs.laws.Refused.{number-err}
use Rattle.reads.specs.Living.{living}
use Rattle.reads.proofs.laws.Guard.{judge-refused}
use Rattle.reads.proofs.laws.Living.{gives-five, gives_none}
use Rattle.reads.proofs.living.guard_living.Goals as goal

pub returns-in_err-judge : goal.returns-in_err-judge
returns-in_err-judge c =
    let a = c.args in
    number-err _ _ c.from_residual.ensures.1 ∙ judge-refused a.l.least a.s.now (living a.key) _ c.in_err-judge.ensures

pub returns-then-key-ge-KEYS : goal.returns-then-key-ge-KEYS
returns-then-key-ge-KEYS c =
    let a = c.args in gives-five a.l.least a.s.now a.key (sym c.in_ok-judge.ensures) c.if-key-ge-KEYS.true

pub returns : goal.returns
returns c = let a = c.args in gives_none a.l.least a.s.now a.key (sym c.in_ok-judge.ensures) c.if-key-ge-KEYS.false
