use Rattle.plan.specs.Plan.{planned_of}
use Rattle.plan.proofs.laws.Plan.{group-fails, group-rises}
use Rattle.group.proofs.laws.Numbers.{actives-two, active-in, numbers-small}
use Rattle.group.specs.Group.{routers_of}
use Rattle.parts.specs.Kept.{pages_of}
use Rattle.model.specs.Needs.{actives}
use native.Mathlib.Omega.{arith}
use mathlib.Core.Path.{refl}
use Prim.Native.Nat.{◌≤◌}
use Rattle.plan.proofs.plan_group.Goals as goal
use Rattle.plan.proofs.plan_group.Goals.{After-active_ones-u}

two : (c : After-active_ones-u) → c.active_ones-u.result.n ≤ 2
two c =
    omega (
      arith,
      c.active_ones-u.ensures.count,
      actives-two c.args.w (pages_of c.args.l c.args.s.now) c.args.g.routers,
    )

pub overflow_add-have : goal.overflow_add-have
overflow_add-have c = omega (arith, two (goal.at.overflow_add-have c).After-active_ones-u, c.requires.2)

pub returns-then-have-need : goal.returns-then-have-need
unfolding planned_of
returns-then-have-need c =
    let ps = pages_of c.args.l c.args.s.now in (
      group-fails c.args.l.least c.args.w ps c.args.g c.requires.1.good
          c.active_ones-u.result c.args.left c.active_ones-u.ensures c.fills-need.result
          c.fills-need.ensures c.if-have-need.true,
      tt,
      refl,
    )

pub parent_change-requires : goal.parent_change-requires
parent_change-requires c =
    let ps = pages_of c.args.l c.args.s.now in
    let (x, y) = numbers-small c.args.l c.args.s.now c.requires.0 c.active_ones-u.result
    (actives c.args.w ps (routers_of c.args.g.routers)) c.active_ones-u.ensures
    (active-in c.args.l c.args.s.now c.args.w c.args.g.routers c.requires.1.routed) in
    (c.requires.1.good, c.requires.1.routed.first.fits, x, y)

pub returns : goal.returns
unfolding planned_of
returns c =
    let ps = pages_of c.args.l c.args.s.now in (
      group-rises c.args.l.least c.args.w ps c.args.g c.requires.1.good
          c.active_ones-u.result c.args.left c.active_ones-u.ensures c.fills-need.result
          c.fills-need.ensures _ c.if-have-need.false c.parent_change.ensures.0,
      (c.parent_change.ensures.1, omega (arith, two (goal.at.returns c).After-active_ones-u)),
      tt,
    )
