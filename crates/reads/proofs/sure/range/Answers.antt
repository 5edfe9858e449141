-- `range` meets its contract. Assumes nothing.
use Rattle.model.proofs.Edition.{edition}
use mathlib.Core.Bool.{Bool}
use mathlib.Core.Path.{ap, ◌∙◌}
use Rattle.model.specs.Calls.{first_of}
use Rattle.model.specs.Layout.{decode}
use Rattle.store.proofs.laws.Refused.{listed-err}
use Rattle.reads.specs.Reading.{reading}
use Rattle.reads.proofs.laws.Looking.{ranges-refused, ranges}
use Rattle.reads.proofs.sure.range.Goals as goal

pub returns-in_err-guard_sound : goal.returns-in_err-guard_sound
returns-in_err-guard_sound c =
    let a = c.args in
    listed-err _ a.list.now _ c.from_residual.ensures.1
    ∙ ranges-refused (edition c.args.l) a.s.now c.requires a.low a.high a.v a.list.now _
    (c.in_err-guard_sound.ensures ∙ ap (λ (b : Bool). first_of (reading b a.v (decode a.l.least a.s.now))) c.bad_range.ensures)

pub returns : goal.returns
returns c =
    let a = c.args in
    c.sound_range.ensures
    ∙ ranges (edition c.args.l) a.s.now c.requires a.low a.high a.v a.list.now
    (c.in_ok-guard_sound.ensures ∙ ap (λ (b : Bool). first_of (reading b a.v (decode a.l.least a.s.now))) c.bad_range.ensures)
