-- `apply` meets its contract. Assumes nothing.
use mathlib.Core.Path.{◌∙◌}
use Rattle.climb.specs.Work.{worked_of}
use Rattle.update.proofs.laws.Applied.{done-settled, done-lacking, to-root, applied}
use Rattle.update.proofs.apply.Goals as goal

pub climb_up-requires : goal.climb_up-requires
climb_up-requires c =
    let p = c.requires in
    (p.kept, p.led, p.fits, p.low, p.size_is)

pub apply_root-requires : goal.apply_root-requires
unfolding worked_of
apply_root-requires c =
    let p = c.requires in
    let r = rw c.in-Ok-Some.field-0-is at c.in-Ok-Some.ensures in
    rw c.in-Ok-Some.d-is
    (to-root p r.1 _ r.2 r.0)

pub returns-in-Ok-Some : goal.returns-in-Ok-Some
unfolding worked_of
returns-in-Ok-Some c =
    let p = c.requires in
    let r = rw c.in-Ok-Some.field-0-is at c.in-Ok-Some.ensures in
    c.apply_root.ensures ∙ rw c.in-Ok-Some.d-is (applied p r.1 _ r.0)

pub returns-in-Ok-None : goal.returns-in-Ok-None
unfolding worked_of
returns-in-Ok-None c =
    let p = c.requires in
    let r = rw c.in-Ok-None.field-0-is at c.in-Ok-None.ensures in
    done-settled p.kept r.1 _ _ _ _ r.0

pub returns-in-Err : goal.returns-in-Err
unfolding worked_of
returns-in-Err c =
    let p = c.requires in
    let r = c.in-Err.ensures in
    absurd (done-lacking p.kept r.1 _ _ _ _ r.0 p.planned)
