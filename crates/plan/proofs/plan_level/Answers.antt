use Rattle.plan.specs.Plan.{planned_of}
use Rattle.plan.proofs.laws.Plan.{level-settles, level-group}
use Rattle.group.specs.Group.{around_of}
use Rattle.parts.specs.Kept.{pages_of}
use Rattle.parts.proofs.laws.Kept.{wanted_room}
use Rattle.gather.proofs.laws.Gather.{listed}
use Rattle.edit.specs.Change.{change_of}
use mathlib.Core.Path.{sym, ◌∙◌}
use native.Mathlib.Omega.{arith}
use Rattle.plan.proofs.plan_level.Goals as goal

pub returns-then-takes_in_place : goal.returns-then-takes_in_place
unfolding planned_of around_of
returns-then-takes_in_place c =
    let a = c.args in (
      level-settles a.l.least a.w (pages_of a.l a.s.now) (around_of a.a) (change_of a.c) a.left
          (sym c.takes_in_place.ensures ∙ c.if-takes_in_place.true),
      tt,
      tt,
    )

pub gathered-requires : goal.gathered-requires
gathered-requires c = (
  c.requires.0,
  c.requires.1,
  c.wanted_of-want.ensures.good,
  omega (
    arith,
    listed c.wanted_of-want.ensures,
    wanted_room c.requires.0 c.requires.1.own.inside c.args.w c.args.c c.requires.2,
  ),
)

pub returns : goal.returns
unfolding around_of
returns c =
    let a = c.args in (
      c.plan_group.ensures.0 ∙ rw (c.gathered.ensures.1, c.wanted_of-want.ensures.is)
          (level-group a.l.least a.w (pages_of a.l a.s.now) (around_of a.a) (change_of a.c) a.left
          (sym c.takes_in_place.ensures ∙ c.if-takes_in_place.false)),
      c.plan_group.ensures.1,
      c.plan_group.ensures.2,
    )
