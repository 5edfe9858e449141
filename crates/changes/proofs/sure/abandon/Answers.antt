-- `abandon` meets its contract. Assumes nothing.
use mathlib.Core.Path.{refl, sym, ◌∙◌}
use Rattle.store.proofs.laws.Refused.{refuses-some, leaving-err}
use Rattle.reads.proofs.laws.Guard.{guard-sound}
use Rattle.changes.specs.Turning.{closing}
use Rattle.changes.proofs.laws.Turning.{is_open, abandon-refused, abandon-done}
use Rattle.changes.proofs.sure.abandon.Goals as goal

pub returns-in_err-guard_closing : goal.returns-in_err-guard_closing
returns-in_err-guard_closing c =
    let a = c.args in let e = c.in_err-guard_closing in
    leaving-err _ a.s.now _ c.from_residual.ensures.1 ∙ abandon-refused a.l.least a.s.now _ e.ensures (refuses-some e.field-0.0)

pub abandon-requires : goal.abandon-requires
abandon-requires c =
    let a = c.args in
    let z = sym c.in_ok-guard_closing.ensures in
    (guard-sound a.l.least a.s.now closing z, is_open a.l.least a.s.now z)

pub returns : goal.returns
returns c = let a = c.args in abandon-done a.l.least a.s.now 0 c.in_ok-guard_closing.ensures refl _ c.abandon.ensures
