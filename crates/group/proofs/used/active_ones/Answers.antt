use Rattle.group.proofs.laws.Numbers.{actives-one, actives-both}
use Rattle.parts.specs.Kept.{pages_of}
use Rattle.group.proofs.used.active_ones.Goals as goal

pub returns-in-Some : goal.returns-in-Some
returns-in-Some c =
    rw (← actives-both c.args.w (pages_of c.args.l c.args.s.now) c.args.rs c.in-Some.r c.in-Some.is)
    (rw (c.is_active-a.ensures, c.is_active.ensures) at c.chosen.ensures)

pub returns-in-None : goal.returns-in-None
returns-in-None c =
    rw (← actives-one c.args.w (pages_of c.args.l c.args.s.now) c.args.rs c.in-None.is)
    (rw c.is_active-a.ensures at c.chosen-in-None.ensures)
