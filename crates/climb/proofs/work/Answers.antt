use native.Mathlib.Omega.{arith}
use mathlib.Core.Path.{sym, ◌∙◌}
use Rattle.model.specs.Store.{page}
use Rattle.edit.specs.Change.{change_of}
use Rattle.gather.proofs.laws.Gather.{listed}
use Rattle.parts.proofs.laws.Becomes.{pages-are}
use Rattle.parts.specs.Kept.{pages_of}
use Rattle.parts.proofs.laws.Kept.{valid, wanted_room}
use Rattle.group.specs.Group.{around_of}
use Rattle.climb.proofs.laws.Rebuild.{itself}
use Rattle.climb.specs.Work.{worked_of}
use Rattle.climb.proofs.laws.Work.{work-settles, work-regroups, in-place-room}
use Rattle.climb.proofs.work.Goals as goal

pub change_in-requires : goal.change_in-requires
change_in-requires c = (
  c.requires.0,
  c.requires.1.own.inside,
  c.requires.3,
  c.requires.2,
  in-place-room c.args.l.least c.args.w (change_of c.args.c)
      (page (pages_of c.args.l c.args.s.now) c.args.a.own.value)
      (sym c.takes_in_place.ensures ∙ c.if-takes_in_place.true),
)

pub returns-then-takes_in_place : goal.returns-then-takes_in_place
unfolding worked_of around_of
returns-then-takes_in_place c =
    let d = c.change_in.ensures in (
      rw (pages-are c.requires.0 d)
          (work-settles c.args.l.least c.args.w (pages_of c.args.l c.args.s.now)
          (around_of c.args.a) (change_of c.args.c) (sym c.takes_in_place.ensures ∙ c.if-takes_in_place.true)),
      itself c.requires.0 d,
      tt,
    )

pub gathered-g-requires : goal.gathered-g-requires
gathered-g-requires c =
    let want = c.wanted_of-want in (
      c.requires.0,
      c.requires.1,
      want.ensures.good,
      omega (
        arith,
        listed want.ensures,
        wanted_room c.requires.0 c.requires.1.own.inside c.args.w c.args.c c.requires.2,
      ),
    )

pub regroup-requires : goal.regroup-requires
regroup-requires c = (
  c.requires.0,
  c.gathered-g.ensures.0,
  c.requires.3,
  rw c.level_of-level.ensures (valid c.requires.0 c.requires.1.own.inside).level,
  c.requires.4,
)

pub returns : goal.returns
unfolding around_of
returns c =
    let a = c.args in
    let done = c.regroup in (
      done.ensures.0
          ∙ rw (c.gathered-g.ensures.1, c.wanted_of-want.ensures.is, c.level_of-level.ensures)
          (work-regroups a.l.least a.w (pages_of a.l a.s.now) (around_of a.a) (change_of a.c)
          (sym c.takes_in_place.ensures ∙ c.if-takes_in_place.false)),
      done.ensures.1,
      done.ensures.2,
    )
