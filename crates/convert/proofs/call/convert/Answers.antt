-- `convert` meets its contract. Assumes nothing.
use mathlib.Core.Path.{sym}
use Rattle.std.proofs.lemmas.Result.{err_from_is_err_and}
use Rattle.store.proofs.laws.Refused.{refuses-some}
use Rattle.model.proofs.turning.Converting.{passes}
use Rattle.convert.proofs.laws.Whole.{refused-so, done-so}
use Rattle.convert.proofs.call.convert.Goals as goal

pub returns-in_err-guard : goal.returns-in_err-guard
returns-in_err-guard c =
    let a = c.args in
    let r = err_from_is_err_and c.from_residual.result c.from_residual.ensures.1 in
    rw (r.1, r.2) (refused-so a.s.now a.t.now _ c.in_err-guard.ensures (refuses-some c.in_err-guard.field-0.0))

pub convert_in-requires : goal.convert_in-requires
convert_in-requires c =
    let a = c.args in
    let p = passes a.s.now a.t.now (sym c.in_ok-guard.ensures) in
    (p.sound, p.long)

pub returns : goal.returns
returns c =
    let a = c.args in
    done-so a.s.now a.t.now (sym c.in_ok-guard.ensures) _ c.convert_in.ensures
