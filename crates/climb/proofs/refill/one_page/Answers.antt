use Rattle.group.specs.Group.{routers_of}
use native.Mathlib.Omega.{arith}
use Rattle.parts.proofs.laws.Becomes.{kept-after, inside-after}
use Rattle.climb.proofs.laws.Rebuild.{one-filled}
use Rattle.climb.proofs.refill.one_page.Goals as goal

pub retire-requires : goal.retire-requires
retire-requires c = (c.requires.0, c.requires.1.routed, c.requires.2)

pub fill_in-requires : goal.fill_in-requires
fill_in-requires c = (
  kept-after c.requires.0 c.retire.ensures,
  inside-after c.requires.0 c.retire.ensures c.requires.4,
  c.requires.3,
  c.requires.2,
  c.requires.1.good,
  omega arith,
  omega arith,
  omega (arith, c.requires.5),
)

pub returns : goal.returns
returns c =
    one-filled c.requires.0 c.args.w c.args.level (routers_of c.args.g.routers)
    c.retire.ensures c.args.g.all c.requires.1.good c.args.to
    c.fill_in.ensures
