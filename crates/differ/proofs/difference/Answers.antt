-- `difference` meets its contract. Assumes nothing.
use Rattle.differ.proofs.laws.Listing.{few-between}
use Rattle.model.proofs.reading.Telling.{none-room, told-short, second-space, told-all}
use Rattle.model.specs.Telling.{deltas}
use native.Mathlib.Omega.{arith}
use Rattle.differ.proofs.difference.Goals as goal

pub tell-found-requires : goal.tell-found-requires
tell-found-requires c = (c.requires.0, c.requires.1, none-room deltas (omega (arith, few-between c.requires.0 c.requires.1)))

pub overflow_mul-found : goal.overflow_mul-found
overflow_mul-found c = omega (arith, c.tell-found.ensures.count, few-between c.requires.0 c.requires.1)

pub returns-then-list-found : goal.returns-then-list-found
returns-then-list-found c = told-short deltas c.tell-found.ensures c.if-list-found.true

pub tell-requires : goal.tell-requires
tell-requires c = (
  c.requires.0,
  c.requires.1,
  second-space deltas c.tell-found.ensures c.if-list-found.false
      (omega (arith, few-between c.requires.0 c.requires.1)),
)

pub returns : goal.returns
returns c = told-all deltas c.tell-found.ensures c.if-list-found.false c.tell.ensures
