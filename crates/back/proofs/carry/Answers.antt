-- `carry` meets its contract. Assumes nothing.
use mathlib.Core.Path.{refl}
use Rattle.std.proofs.lemmas.Result.{err_from_is_err_and}
use Rattle.store.proofs.laws.Refused.{refuses-some}
use Rattle.back.proofs.laws.Both.{first_stops, second_so}
use Rattle.back.proofs.carry.Goals as goal

pub returns-in_err-pass : goal.returns-in_err-pass
returns-in_err-pass c =
    let p = err_from_is_err_and c.from_residual.result c.from_residual.ensures.1 in
    rw (p.1, p.2) (first_stops c.requires _ _ c.in_err-pass.ensures (refuses-some c.in_err-pass.field-0.0))

pub pass-requires-2 : goal.pass-requires-2
pass-requires-2 c = c.in_ok-pass.ensures.going

pub returns : goal.returns
returns c = second_so c.requires _ _ c.in_ok-pass.ensures refl _ _ c.pass-2.ensures
