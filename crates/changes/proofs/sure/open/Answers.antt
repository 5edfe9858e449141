-- `open` meets its contract. Assumes nothing.
use mathlib.Core.Path.{refl, sym, ◌∙◌}
use Rattle.store.proofs.laws.Refused.{refuses-some, leaving-err}
use Rattle.reads.proofs.laws.Guard.{guard-sound}
use Rattle.changes.specs.Turning.{opening}
use Rattle.changes.proofs.laws.Turning.{open-refused, open_done}
use Rattle.changes.proofs.sure.open.Goals as goal

pub returns-in_err-guard_opening : goal.returns-in_err-guard_opening
returns-in_err-guard_opening c =
    let a = c.args in let e = c.in_err-guard_opening in
    leaving-err _ a.s.now _ c.from_residual.ensures.1 ∙ open-refused a.l.least a.s.now _ e.ensures (refuses-some e.field-0.0)

pub begin-requires : goal.begin-requires
begin-requires c =
    let a = c.args in
    let z = sym c.in_ok-guard_opening.ensures in
    (guard-sound a.l.least a.s.now opening z)

pub returns : goal.returns
returns c = let a = c.args in open_done a.l.least a.s.now 0 c.in_ok-guard_opening.ensures refl _ c.begin.ensures
