-- The digits by their number: one, two, three or four. Assumes nothing.
use Rattle.std.proofs.Common.{◌<◌, arith}
use Rattle.lines.proofs.Laying.{decimal-one, decimal-two, decimal-three, decimal-four, sized}
use Rattle.lines.proofs.saying.put_few.Goals as goal

pub put_digits-requires : goal.put_digits-requires
put_digits-requires c = omega (arith, sized _ _ (decimal-one c.args.n c.if-n-lt10.true))

pub returns-then-n-lt10 : goal.returns-then-n-lt10
returns-then-n-lt10 c = rw (decimal-one c.args.n c.if-n-lt10.true) c.put_digits.ensures

pub put_digits-requires-then-n-lt100 : goal.put_digits-requires-then-n-lt100
put_digits-requires-then-n-lt100 c = omega (arith, sized _ _ (decimal-two c.args.n c.if-n-lt10.false c.if-n-lt100.true))

pub returns-then-n-lt100 : goal.returns-then-n-lt100
returns-then-n-lt100 c = rw (decimal-two c.args.n c.if-n-lt10.false c.if-n-lt100.true) c.put_digits-then-n-lt100.ensures

pub put_digits-requires-then-n-lt1000 : goal.put_digits-requires-then-n-lt1000
put_digits-requires-then-n-lt1000 c = omega (arith, sized _ _ (decimal-three c.args.n c.if-n-lt100.false c.if-n-lt1000.true))

pub returns-then-n-lt1000 : goal.returns-then-n-lt1000
returns-then-n-lt1000 c =
    rw (decimal-three c.args.n c.if-n-lt100.false c.if-n-lt1000.true) c.put_digits-then-n-lt1000.ensures

pub put_digits-requires-else-n-lt1000 : goal.put_digits-requires-else-n-lt1000
put_digits-requires-else-n-lt1000 c =
    let below : c.args.n < 10000 = omega arith in
    omega (arith, sized _ _ (decimal-four c.args.n c.if-n-lt1000.false below))

pub returns-else-n-lt1000 : goal.returns-else-n-lt1000
returns-else-n-lt1000 c =
    let below : c.args.n < 10000 = omega arith in
    rw (decimal-four c.args.n c.if-n-lt1000.false below) c.put_digits-else-n-lt1000.ensures
