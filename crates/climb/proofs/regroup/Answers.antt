use mathlib.Core.Path.{refl}
use mathlib.Core.Path.{◌≡◌, ◌∙◌}
use Rattle.model.specs.Needs.{fills}
use Rattle.gather.specs.Gather.{pairs_in}
use Rattle.gather.proofs.laws.Gather.{length_pairs}
use Rattle.parts.proofs.laws.Becomes.{stays}
use Rattle.parts.specs.Kept.{pages_of}
use Rattle.climb.specs.Work.{worked_of}
use Rattle.climb.proofs.laws.Work.{regroup-lacks, regroup-rises, usable-small}
use Rattle.climb.proofs.regroup.Goals as goal
use Rattle.climb.proofs.regroup.Goals.{After-fills}

pub usable-u-requires : goal.usable-u-requires
usable-u-requires c = (c.requires.0, c.requires.1.routed, c.requires.4)

need-is : (c : After-fills) →
    c.fills.result ≡ fills c.args.l.least (pairs_in c.args.g.all)
need-is c =
    c.fills.ensures ∙ rw (length_pairs c.args.g.all c.requires.1.good)

pub returns-then-u-fills : goal.returns-then-u-fills
unfolding worked_of
returns-then-u-fills c = (
  regroup-lacks c.args.l.least c.args.w c.args.level
      (pages_of c.args.l c.args.s.now) c.args.g c.usable-u.result
      c.usable-u.ensures (rw (need-is (c.before.before)) at c.if-u-fills.true),
  stays c.requires.0,
  refl,
)

pub parent_change-c-requires : goal.parent_change-c-requires
parent_change-c-requires c =
    let (x, y) = usable-small c.args.l c.args.s.now c.requires.0 c.args.w
    c.args.g.routers c.requires.1.routed c.usable-u.result c.usable-u.ensures in
    (c.requires.1.good, c.requires.1.routed.first.fits, x, y)

pub rebuild-requires : goal.rebuild-requires
rebuild-requires c = (
  c.requires.0,
  c.requires.1,
  c.requires.2,
  c.requires.3,
  c.usable-u.ensures,
  rw (need-is c.before.before.before.before) at c.if-u-fills.false,
)

pub returns : goal.returns
unfolding worked_of
returns c = (
  regroup-rises c.args.l.least c.args.w c.args.level
      (pages_of c.args.l c.args.s.now) c.args.g _ _ _ c.rebuild.ensures.0
      c.parent_change-c.ensures.0,
  c.rebuild.ensures.1,
  c.parent_change-c.ensures.1,
)
