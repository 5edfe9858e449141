-- `new_root` meets its contract. Assumes nothing.
use mathlib.Core.Path.{refl}
use native.Mathlib.Omega.{arith}
use mathlib.Core.Path.{◌≡◌, sym, ◌∙◌}
use Rattle.model.specs.Needs.{fills}
use Rattle.model.specs.Rules.{rebuild}
use Rattle.group.specs.Group.{group_of}
use Rattle.parts.specs.Kept.{pages_of}
use Rattle.parts.proofs.laws.Becomes.{stays, then, kept-after}
use Rattle.gather.specs.Gather.{pairs_in}
use Rattle.gather.proofs.laws.Gather.{length_pairs}
use Rattle.climb.proofs.laws.Work.{usable-small}
use Rattle.climb.proofs.laws.Rebuild.{rebuilt-short}
use Rattle.root.specs.Root.{rooted_of}
use Rattle.root.proofs.laws.Renew.{renew-lacks}
use Rattle.root.proofs.renew.new_root.Goals as goal
use Rattle.root.proofs.renew.new_root.Goals.{After-fills}

pub usable-u-requires : goal.usable-u-requires
usable-u-requires c = (c.requires.0, c.requires.1.routed, c.requires.4)

need-is : (c : After-fills) →
    c.fills.result ≡ fills c.args.l.least (pairs_in c.args.g.all)
need-is c =
    c.fills.ensures ∙ rw (length_pairs c.args.g.all c.requires.1.good)

pub returns-then-u-fills : goal.returns-then-u-fills
unfolding rooted_of
returns-then-u-fills c = (
  renew-lacks c.args.w c.args.level
      (rebuild c.args.l.least c.args.w c.args.level
      (pages_of c.args.l c.args.s.now) (group_of c.args.g))
      (rebuilt-short c.args.l.least c.args.w c.args.level
      (pages_of c.args.l c.args.s.now) c.args.g c.usable-u.result
      c.usable-u.ensures (rw (need-is c.before.before) at c.if-u-fills.true)),
  stays c.requires.0,
  refl,
)

pub routers_to-rs-requires : goal.routers_to-rs-requires
routers_to-rs-requires c =
    let (x, y) = usable-small c.args.l c.args.s.now c.requires.0 c.args.w
    c.args.g.routers c.requires.1.routed c.usable-u.result c.usable-u.ensures in
    (c.requires.1.good, c.requires.1.routed.first.fits, x, y)

pub rebuild-requires : goal.rebuild-requires
rebuild-requires c = (
  c.requires.0,
  c.requires.1,
  c.requires.2,
  omega (arith, c.requires.3),
  c.usable-u.ensures,
  rw (need-is c.before.before.before.before) at c.if-u-fills.false,
)

pub crown-requires : goal.crown-requires
crown-requires c =
    let d = c.rebuild.ensures.1 in (
      kept-after c.requires.0 d,
      c.requires.2,
      c.requires.3,
      c.routers_to-rs.ensures.1,
      c.requires.4 ∙ sym d.long,
    )

pub returns : goal.returns
returns c = (
  c.crown.ensures.0 ∙ rw (c.routers_to-rs.ensures.0, c.rebuild.ensures.0),
  then c.requires.0 c.rebuild.ensures.1 c.crown.ensures.1,
  c.crown.ensures.2,
)
