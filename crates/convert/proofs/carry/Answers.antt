-- `carry` meets its contract. Assumes nothing.
use Rattle.convert.proofs.laws.Pass.{ends-due, sets-due, first_stops, second_so}
use mathlib.Core.Path.{refl}
use Rattle.std.proofs.lemmas.Result.{err_from_is_err_and}
use Rattle.store.proofs.laws.Refused.{refuses-some}
use Rattle.convert.proofs.carry.Goals as goal

pub pass-requires : goal.pass-requires
pass-requires c =
    let p = c.requires in
    (p.0, p.1, p.2, ends-due p.0 p.1 p.2 p.3)

pub returns-in_err-pass : goal.returns-in_err-pass
returns-in_err-pass c =
    let p = c.requires in
    let r = err_from_is_err_and c.from_residual.result c.from_residual.ensures.1 in
    rw (r.1, r.2) (first_stops p.0 p.1 p.2 p.3 _ _ c.in_err-pass.ensures (refuses-some c.in_err-pass.field-0.0))

pub pass-requires-2 : goal.pass-requires-2
pass-requires-2 c =
    let p = c.requires in
    let q = c.in_ok-pass.ensures in
    (p.0, p.1, q.ready, sets-due p.0 p.1 p.2 p.3 _ _ q refl)

pub returns : goal.returns
returns c =
    let p = c.requires in
    second_so p.0 p.1 p.2 p.3 _ _ c.in_ok-pass.ensures refl _ _ c.pass-2.ensures
