-- `bounded::by_table` meets its contract. Assumes nothing.
use Rattle.model.proofs.Edition.{edition}
use Prim.Native.Nat.{pred}
use native.Mathlib.Omega.{arith}
use Rattle.model.specs.Near.{range_right}
use Rattle.model.specs.Walk.{range_below}
use Rattle.model.specs.Layout.{decode}
use Rattle.near.proofs.laws.Crossed.{answered-wrong}
use Rattle.tabled.proofs.laws.Cells.{small-long, large-long}
use Rattle.tabled.proofs.laws.Most.{high-wrong}
use Rattle.near.proofs.bounded.by_table.Goals as goal

pub returns-then-level-gt7 : goal.returns-then-level-gt7
returns-then-level-gt7 c =
    let a = c.args in
    answered-wrong a.list.now (range_right a.l.least a.s.now a.q.version (pred a.level) a.q.high a.q.low a.n)
    (range_below (pred a.level) (decode a.l.least a.s.now).pages a.q.version a.q.low a.q.high a.q.low a.n)
    (high-wrong a.l.least a.s.now (edition c.args.l).eight a.q.version a.q.high a.q.low a.level a.n
    c.if-level-gt7.true)

pub by-requires : goal.by-requires
by-requires c = (
  c.requires.0,
  c.requires.1,
  c.requires.2,
  omega (arith, c.if-level-gt7.false),
  small-long c.args.l.least c.if-l-le4.true,
  omega arith,
)

pub by-requires-else-l-le4 : goal.by-requires-else-l-le4
by-requires-else-l-le4 c = (
  c.requires.0,
  c.requires.1,
  c.requires.2,
  omega (arith, c.if-level-gt7.false),
  large-long c.args.l.least (edition c.args.l).eight,
  omega arith,
)
