use Prim.Native.Nat.{◌*◌, ◌<◌}
use native.Mathlib.Omega.{arith}
use Rattle.page.proofs.laws.Editions.{full_is}
use Rattle.model.specs.Rules.{usable}
use Rattle.gather.specs.Gather.{pairs_in}
use Rattle.gather.proofs.laws.Gather.{length_pairs}
use Rattle.group.proofs.laws.Numbers.{usable-in, first-in, second-in}
use Rattle.group.specs.Group.{routers_of}
use Rattle.parts.proofs.laws.Becomes.{pages-are}
use Rattle.parts.specs.Kept.{pages_of}
use Rattle.climb.proofs.laws.Rebuild.{itself, rebuilt-one, rebuilt-two, fills_one, fills_two}
use Rattle.climb.proofs.refill.rebuild.Goals as goal

pub one_page-requires : goal.one_page-requires
one_page-requires c =
    let us = usable c.args.w (pages_of c.args.l c.args.s.now) (routers_of c.args.g.routers) in
    let i = usable-in c.args.l c.args.s.now c.args.w c.args.g.routers
    c.requires.1.routed c.args.u.first
    (first-in c.args.u us c.requires.4
    (omega (arith, fills_one c.args.l.least (pairs_in c.args.g.all), c.requires.5))) in (
      c.requires.0,
      c.requires.1,
      c.requires.2,
      c.requires.3,
      i,
      omega (arith, full_is c.requires.0.edition, c.if-g-l.true),
    )

pub returns-then-g-l : goal.returns-then-g-l
returns-then-g-l c =
    let ps = pages_of c.args.l c.args.s.now in
    let e = rebuilt-one c.args.l.least c.args.w c.args.level ps c.args.g c.args.u
    c.requires.4 c.requires.1.good (omega (arith, full_is c.requires.0.edition, c.if-g-l.true))
    (omega (arith, fills_one c.args.l.least (pairs_in c.args.g.all), c.requires.5)) in
    (rw (pages-are c.requires.0 c.one_page.ensures) e, itself c.requires.0 c.one_page.ensures)

pub two_pages-requires : goal.two_pages-requires
two_pages-requires c =
    let us = usable c.args.w (pages_of c.args.l c.args.s.now) (routers_of c.args.g.routers) in
    let two = fills_two c.args.l.least (pairs_in c.args.g.all)
    (omega (
      arith,
      full_is c.requires.0.edition,
      c.if-g-l.false,
      length_pairs c.args.g.all c.requires.1.good,
    )) in
    let i = usable-in c.args.l c.args.s.now c.args.w c.args.g.routers
    c.requires.1.routed c.args.u.first
    (first-in c.args.u us c.requires.4 (omega (arith, two, c.requires.5))) in
    let j = usable-in c.args.l c.args.s.now c.args.w c.args.g.routers
    c.requires.1.routed c.args.u.second
    (second-in c.args.u us c.requires.4 (omega (arith, two, c.requires.5))) in
    (c.requires.0, c.requires.1, c.requires.2, c.requires.3, i, j)

pub returns-else-g-l : goal.returns-else-g-l
returns-else-g-l c =
    let ps = pages_of c.args.l c.args.s.now in
    let many : 4 * c.args.l.least < c.args.g.all.n
    = omega (arith, full_is c.requires.0.edition, c.if-g-l.false) in
    let two = fills_two c.args.l.least (pairs_in c.args.g.all)
    (omega (arith, length_pairs c.args.g.all c.requires.1.good)) in
    let e = rebuilt-two c.args.l.least c.args.w c.args.level ps c.args.g c.args.u
    c.requires.4 c.requires.1.good many (omega (arith, two, c.requires.5)) in
    (rw (pages-are c.requires.0 c.two_pages.ensures) e, itself c.requires.0 c.two_pages.ensures)
