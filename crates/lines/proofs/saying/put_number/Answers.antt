-- The last four digits behind the others. Assumes nothing.
use Rattle.std.proofs.Common.{arith}
use Rattle.lines.proofs.Laying.{decimal-fours, length-fours, then-put}
use Rattle.lines.proofs.saying.put_number.Goals as goal

pub put_some-e-requires-clause-n_in_bounds : goal.put_some-e-requires-clause-n_in_bounds
put_some-e-requires-clause-n_in_bounds c = omega (arith, length-fours c.args.n c.if-n-lt10000.false c.ranges.n.fits)

pub put_digits-requires : goal.put_digits-requires
put_digits-requires c =
    omega (arith, length-fours c.args.n c.if-n-lt10000.false c.ranges.n.fits, c.put_some-e.auto.out, c.put_some-e.ensures.behind)

pub returns : goal.returns
returns c =
    let left = c.if-n-lt10000.false in
    let long = length-fours c.args.n left c.ranges.n.fits in
    rw (decimal-fours c.args.n left c.ranges.n.fits)
    (then-put c.put_some-e.ensures c.put_digits.ensures (omega arith))
