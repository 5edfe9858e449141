use Rattle.parts.proofs.laws.Kept.{live-few}
use Rattle.gather.proofs.laws.Gather.{listed}
use native.Mathlib.Omega.{arith}
use Rattle.plan.proofs.down.place_below.Goals as goal

pub around_in-requires : goal.around_in-requires
around_in-requires c = (
  c.live_of.ensures.good,
  omega (arith, listed c.live_of.ensures, c.requires.2),
  omega (
    arith,
    listed c.live_of.ensures,
    live-few c.requires.0 c.requires.1 c.args.w,
    c.requires.0.edition.eight,
  ),
)

pub returns : goal.returns
returns c = rw (← c.live_of.ensures.is) c.around_in.ensures
