-- `one_version` meets its contract. Assumes nothing.
use native.Mathlib.Omega.{arith}
use Rattle.convert.proofs.laws.Version.{old-read, new-read, open-ready, open-shows, version-stops, version-goes, version_low}
use mathlib.Core.Path.{refl}
use Rattle.std.proofs.lemmas.Result.{err_from_is_err_and}
use Rattle.store.proofs.laws.Refused.{refuses-some}
use Rattle.convert.proofs.one_version.Goals as goal

pub overflow_add-v : goal.overflow_add-v
overflow_add-v c =
    let p = c.requires in
    omega (arith, version_low p.0 p.1)

pub carry-requires : goal.carry-requires
carry-requires c =
    let p = c.requires in
    let e = c.begin.ensures in
    (old-read p.0 p.1, new-read p.0 p.1, open-ready p.0 p.1 _ e, open-shows p.0 p.1 _ e)

pub returns-in_err-carry : goal.returns-in_err-carry
returns-in_err-carry c =
    let p = c.requires in
    let r = err_from_is_err_and c.from_residual.result c.from_residual.ensures.1 in
    rw (r.1, r.2) (version-stops p.0 p.1 _ c.begin.ensures _ _ c.in_err-carry.ensures (refuses-some c.in_err-carry.field-0.0))

pub returns : goal.returns
returns c =
    let p = c.requires in
    version-goes p.0 p.1 _ c.begin.ensures _ _ c.in_ok-carry.ensures refl _
    c.commit.ensures
