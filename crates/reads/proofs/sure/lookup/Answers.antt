-- `lookup` meets its contract: one that is not sure is near's. Assumes nothing.
use Rattle.model.proofs.Edition.{edition}
use mathlib.Core.Path.{ap, ◌∙◌}
use Rattle.model.specs.Calls.{looked_at}
use Rattle.store.proofs.laws.Refused.{looked-err}
use Rattle.reads.proofs.laws.Looking.{looks-refused, looks}
use Rattle.reads.proofs.sure.lookup.Goals as goal

pub returns-in_err-guard_sound : goal.returns-in_err-guard_sound
returns-in_err-guard_sound c =
    let a = c.args in
    looked-err _ _ c.from_residual.ensures.1
    ∙ looks-refused (edition c.args.l) a.s.now (c.requires c.if-not-sure.false) a.key a.v _ c.in_err-guard_sound.ensures

pub returns : goal.returns
returns c =
    let a = c.args in
    ap looked_at c.lookup-2.ensures
    ∙ looks (edition c.args.l) a.s.now (c.requires c.if-not-sure.false) a.key a.v c.in_ok-guard_sound.ensures
