-- `crown` meets its contract. Assumes nothing.
use mathlib.Core.Path.{refl}
use native.Mathlib.Omega.{arith}
use mathlib.Core.Path.{◌∙◌}
use Prim.Native.Nat.{◌+◌}
use Rattle.parts.specs.Kept.{pages_of}
use Rattle.parts.specs.Free.{free_past}
use Rattle.parts.proofs.laws.Free.{free_all}
use Rattle.parts.proofs.laws.Becomes.{stays, pages-are}
use Rattle.gather.proofs.laws.Gather.{listed}
use Rattle.climb.proofs.laws.Rebuild.{itself}
use Rattle.root.specs.Root.{rooted_of}
use Rattle.root.proofs.laws.Renew.{crown-one, crown-none, crown-two}
use Rattle.root.proofs.renew.crown.Goals as goal

pub returns-in_default : goal.returns-in_default
unfolding rooted_of
returns-in_default c = (
  crown-one c.args.w c.args.level (pages_of c.args.l c.args.s.now) c.args.rs c.in_default.is,
  stays c.requires.0,
  tt,
)

pub first_free-n-requires : goal.first_free-n-requires
first_free-n-requires c = (c.requires.0, omega arith, omega (arith, c.requires.4, c.requires.0.holds.five), c.requires.4)

pub returns-then-n-size : goal.returns-then-n-size
unfolding rooted_of
returns-then-n-size c =
    let ps = pages_of c.args.l c.args.s.now in (
      crown-none c.args.w c.args.level ps c.args.rs c.in-Some.next c.in-Some.is
          (free_all ps ∙ c.first_free-n.ensures.none (omega (arith, c.if-n-size.true))),
      stays c.requires.0,
      refl,
    )

pub overflow_add-level : goal.overflow_add-level
overflow_add-level c = omega (arith, c.requires.2)

pub both-requires : goal.both-requires
both-requires c = (c.requires.3.first, c.requires.3.second c.in-Some.next c.in-Some.is)

pub fill_in-requires : goal.fill_in-requires
fill_in-requires c = (
  c.requires.0,
  record {
    low = c.first_free-n.ensures.low;
    high = omega (arith, c.first_free-n.ensures.high, c.if-n-size.false, c.requires.4);
  },
  omega (arith, c.requires.2),
  c.requires.1,
  c.both.ensures.good,
  omega arith,
  omega (arith, listed c.both.ensures),
  omega (arith, c.requires.0.edition.four),
)

pub returns : goal.returns
unfolding rooted_of
returns c =
    let ps = pages_of c.args.l c.args.s.now in
    let d = rw c.both.ensures.is at c.fill_in.ensures in (
      rw (pages-are c.requires.0 d)
          (crown-two c.args.w c.args.level ps c.args.rs c.in-Some.next c.in-Some.is c.first_free-n.result
          (free_past ps (c.first_free-n.result + 1))
          (free_all ps ∙ c.first_free-n.ensures.some
          (omega (arith, c.first_free-n.ensures.high, c.if-n-size.false)))),
      itself c.requires.0 d,
      tt,
    )
