-- `gather::Gather::place` meets its contract: the place in the whole is i and the place in what is left. Assumes nothing.
use mathlib.Core.Bool.{true, false}
use native.Mathlib.Omega.{arith}
use borrow.Author.Tests.{lt-ltb, le-ltb}
use Rattle.gather.specs.Gather.{pairs_in}
use Rattle.gather.proofs.laws.Gather.{length_pairs, pair-at}
use Rattle.gather.proofs.laws.Place.{place-step, place-past}
use Rattle.gather.proofs.Gather.place.Goals as goal

pub returns-then-k-self-clause-place : goal.returns-then-k-self-clause-place
returns-then-k-self-clause-place c =
    let g = c.args.self.now in let i = c.loop-i.i in
    omega (
      arith,
      c.loop-i.invariant,
      place-step c.args.k (pairs_in g) i true (omega (arith, length_pairs g c.requires))
          (rw (pair-at g i (omega arith)) (lt-ltb _ _ c.if-k-self.true)),
    )

pub loop-i-preserved : goal.loop-i-preserved
loop-i-preserved c =
    let g = c.args.self.now in let i = c.loop-i.i in
    omega (
      arith,
      c.loop-i.invariant,
      place-step c.args.k (pairs_in g) i false (omega (arith, length_pairs g c.requires))
          (rw (pair-at g i (omega arith)) (le-ltb _ _ c.if-k-self.false)),
    )

pub returns-clause-place : goal.returns-clause-place
returns-clause-place c =
    let g = c.args.self.now in let i = c.loop-i.i in
    omega (arith, c.loop-i.invariant, place-past c.args.k (pairs_in g) i (omega (arith, length_pairs g c.requires)))
