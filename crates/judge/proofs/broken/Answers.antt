-- `judge::broken` meets its contract: rules 1 to 7, and rule 8 where they hold. Assumes nothing.
use mathlib.Core.Path.{sym, ◌∙◌}
use Rattle.std.proofs.lemmas.Result.{err_from_is_err_and}
use Rattle.model.specs.Inner.{lower_in}
use Rattle.model.proofs.sound.Judging.{unbroken, broken-lower, broken-eight, broken-none}
use Rattle.judge.proofs.laws.Judge.{ruled-none, faulted}
use Rattle.judge.proofs.broken.Goals as goal

pub returns-in_err-lower : goal.returns-in_err-lower
returns-in_err-lower c =
    let a = c.args in let p = err_from_is_err_and c.from_residual.result c.from_residual.ensures.1 in
    rw (
      p.1,
      p.2,
      broken-lower a.l.least a.s.now (faulted c.in_err-lower.field-0.0 (lower_in a.l.least a.s.now) c.in_err-lower.ensures),
    ) c.in_err-lower.ensures

pub eighth_rule-requires : goal.eighth_rule-requires
eighth_rule-requires c =
    let a = c.args in
    (c.requires, (unbroken a.l.least a.s.now (ruled-none (lower_in a.l.least a.s.now) c.in_ok-lower.ensures)).0)

pub returns-then-not-eighth_rule : goal.returns-then-not-eighth_rule
returns-then-not-eighth_rule c =
    let a = c.args in
    rw (broken-eight a.l.least a.s.now (ruled-none (lower_in a.l.least a.s.now) c.in_ok-lower.ensures)
    (sym c.eighth_rule.ensures ∙ c.if-not-eighth_rule.true))

pub returns : goal.returns
returns c =
    let a = c.args in
    rw (broken-none a.l.least a.s.now (ruled-none (lower_in a.l.least a.s.now) c.in_ok-lower.ensures)
    (sym c.eighth_rule.ensures ∙ c.if-not-eighth_rule.false))
