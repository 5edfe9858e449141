-- `quick::judge` meets its contract: refused, or by the rules. Assumes nothing.
use Rattle.model.proofs.Edition.{edition}
use Rattle.quick.proofs.laws.Number.{refused-number, not-refused, ruled-number, in_clean}
use Rattle.model.specs.Refusals.{number_of}
use Rattle.store.proofs.laws.Refused.{refuses-some}
use Rattle.local.proofs.laws.Sizes.{sized}
use native.Mathlib.Omega.{arith}
use mathlib.Core.Path.{refl, sym, ◌∙◌}
use Rattle.std.proofs.lemmas.Result.{err_from_is_err_and}
use Rattle.quick.proofs.judge.Goals as goal
use Rattle.quick.proofs.judge.Goals.{else-rules_hold-via-then-rules_hold+else-eighth_rule, else-rules_hold-via-else-rules_hold}

pub returns-in_err-refused : goal.returns-in_err-refused
returns-in_err-refused c =
    let a = c.args in let p = err_from_is_err_and c.from_residual.result c.from_residual.ensures.1 in let e = c.in_err-refused.field-0.0 in
    rw (p.1, p.2)
    (refused-number a.l.least a.s.now (number_of e) c.in_err-refused.ensures (omega (arith, (edition c.args.l).four)) (refuses-some e))

pub rules_hold-requires : goal.rules_hold-requires
rules_hold-requires c =
    let a = c.args in let d = edition c.args.l in
    (rw c.size-size.ensures (sized a.l.least d.four a.s.now d.eight (not-refused a.l.least a.s.now 0 c.in_ok-refused.ensures refl).0))

pub eighth_rule-requires : goal.eighth_rule-requires
eighth_rule-requires c =
    let a = c.args in let d = edition c.args.l in (
      rw c.size-size.ensures (sized a.l.least d.four a.s.now d.eight (not-refused a.l.least a.s.now 0 c.in_ok-refused.ensures refl).0),
      in_clean a.l.least a.s.now (sym c.rules_hold.ensures ∙ c.if-rules_hold.true),
    )

pub returns-then-eighth_rule : goal.returns-then-eighth_rule
returns-then-eighth_rule c =
    let a = c.args in
    sym (ruled-number a.l.least a.s.now 0 c.in_ok-refused.ensures (omega (arith, (edition c.args.l).four)) refl
    ∙ rw (← c.rules_hold.ensures, c.if-rules_hold.true, ← c.eighth_rule.ensures, c.if-eighth_rule.true))

pub returns-else-rules_hold : goal.returns-else-rules_hold
returns-else-rules_hold c =
    let a = c.args in
    sym (ruled-number a.l.least a.s.now 0 c.in_ok-refused.ensures (omega (arith, (edition c.args.l).four)) refl
    ∙ rw (← c.rules_hold.ensures) (elim c.else-rules_hold.branch [
      | else-rules_hold-via-then-rules_hold+else-eighth_rule w ↦
          rw (w.if-rules_hold.true, ← w.eighth_rule.ensures, w.if-eighth_rule.false)
      | else-rules_hold-via-else-rules_hold w ↦ rw w.if-rules_hold.false
    ]))
