-- `commit` meets its contract. Assumes nothing.
use mathlib.Core.Path.{refl, sym, ◌∙◌}
use Rattle.store.proofs.laws.Refused.{refuses-some, leaving-err}
use Rattle.reads.proofs.laws.Guard.{guard-sound}
use Rattle.changes.specs.Turning.{committing}
use Rattle.changes.proofs.laws.Turning.{commit-refused, commit-done}
use Rattle.changes.proofs.sure.commit.Goals as goal

pub returns-in_err-guard_committing : goal.returns-in_err-guard_committing
returns-in_err-guard_committing c =
    let a = c.args in let e = c.in_err-guard_committing in
    leaving-err _ a.s.now _ c.from_residual.ensures.1 ∙ commit-refused a.l.least a.s.now _ e.ensures (refuses-some e.field-0.0)

pub commit-requires : goal.commit-requires
commit-requires c =
    let a = c.args in
    let z = sym c.in_ok-guard_committing.ensures in
    (guard-sound a.l.least a.s.now committing z)

pub returns : goal.returns
returns c = let a = c.args in commit-done a.l.least a.s.now 0 c.in_ok-guard_committing.ensures refl _ c.commit.ensures
