-- A line that is known at once is the step's, as one that is read where it stands. Assumes nothing.
use Rattle.std.proofs.Common.{ℕ, take, refl, ap}
use Rattle.lines.specs.Reading.{reading}
use Rattle.lines.proofs.Steps.{step-standing, hears-ended}
use Rattle.lines.proofs.gathering.hear.Goals as goal

pub returns-in-Some : goal.returns-in-Some
returns-in-Some c =
    let h = c.args.held in
    let k = c.in-Some.known in
    let here = c.in-Some.ensures in
    let none = ap (λ (n : ℕ). take n h.bytes) c.if-held-eq0.true in
    hears-ended (reading h) k.value k.end c.ended.ensures.result_value
    (step-standing (reading h) c.args.piece.now k.end k.value none here.place here.within here.command)
    refl c.ended.ensures.len_bound here.within
