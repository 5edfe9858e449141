-- `fill` meets its contract. Assumes nothing.
use native.Mathlib.Omega.{arith}
use Rattle.walk.proofs.laws.Written.{none-room}
use Rattle.walk.proofs.laws.Counted.{counted, range-short, second-space, range_all}
use Rattle.tabled.proofs.laws.Bound.{right-few}
use Rattle.near.proofs.fill.Goals as goal

pub gather-found-requires : goal.gather-found-requires
gather-found-requires c =
    let a = c.args in (
      c.requires.0,
      c.requires.1,
      none-room
          (right-few a.l.least a.s.now c.requires.0.edition.eight a.up a.v a.low a.high a.low a.n
          c.requires.1),
    )

pub overflow_mul-found : goal.overflow_mul-found
overflow_mul-found c =
    let a = c.args in
    omega (
      arith,
      counted c.gather-found.ensures,
      right-few a.l.least a.s.now c.requires.0.edition.eight a.up a.v a.low a.high a.low a.n
          c.requires.1,
    )

pub returns-then-list-found : goal.returns-then-list-found
returns-then-list-found c = range-short c.gather-found.ensures c.if-list-found.true

pub gather-requires : goal.gather-requires
gather-requires c =
    let a = c.args in (
      c.requires.0,
      c.requires.1,
      second-space c.gather-found.ensures c.if-list-found.false
          (right-few a.l.least a.s.now c.requires.0.edition.eight a.up a.v a.low a.high a.low a.n
          c.requires.1),
    )

pub returns : goal.returns
returns c = range_all c.gather-found.ensures c.if-list-found.false c.gather.ensures
