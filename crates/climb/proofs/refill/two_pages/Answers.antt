use Rattle.group.specs.Group.{routers_of}
use Prim.Native.Nat.{◌+◌, ◌/◌}
use native.Mathlib.Omega.{arith}
use Rattle.parts.proofs.laws.Becomes.{kept-after, inside-after, then}
use Rattle.climb.proofs.laws.Rebuild.{both-filled}
use Rattle.climb.proofs.refill.two_pages.Goals as goal

pub retire-requires : goal.retire-requires
retire-requires c = (c.requires.0, c.requires.1.routed, c.requires.2)

pub overflow_add-half : goal.overflow_add-half
overflow_add-half c = omega (arith, c.requires.1.good.room)

pub fill_in-requires : goal.fill_in-requires
fill_in-requires c = (
  kept-after c.requires.0 c.retire.ensures,
  inside-after c.requires.0 c.retire.ensures c.requires.4,
  c.requires.3,
  c.requires.2,
  c.requires.1.good,
  omega arith,
  omega (arith, c.requires.1.good.room),
  omega (arith, c.requires.1.few),
)

pub fill_in-requires-2 : goal.fill_in-requires-2
fill_in-requires-2 c =
    let d = then c.requires.0 c.retire.ensures c.fill_in.ensures in (
      kept-after c.requires.0 d,
      inside-after c.requires.0 d c.requires.5,
      c.requires.3,
      c.requires.2,
      c.requires.1.good,
      omega arith,
      omega arith,
      omega (arith, c.requires.1.few),
    )

pub returns : goal.returns
returns c =
    both-filled c.requires.0 c.args.w c.args.level (routers_of c.args.g.routers)
    c.retire.ensures c.args.g.all c.requires.1.good c.args.to
    ((c.args.g.all.n + 1) / 2) c.args.next c.fill_in.ensures c.fill_in-2.ensures
