-- The last digits are put, and those of `n` are left. Assumes nothing.
use Rattle.std.proofs.Common.{◌≡◌, suc, ◌-◌, arith}
use Rattle.lines.proofs.Laying.{put_none, put_next, put_all}
use Rattle.lines.proofs.saying.put_digits.Goals as goal

pub loop-i-init : goal.loop-i-init
loop-i-init g c = put_none g.row.N c.args.n c.args.out.now c.args.at

pub loop-i-preserved : goal.loop-i-preserved
loop-i-preserved g c =
    let more : c.loop-i.i ≡ suc (c.loop-i.i - 1) = omega arith in
    put_next (rw more at c.loop-i.invariant) c.requires

pub returns : goal.returns
returns g c = let none : c.loop-i.i ≡ 0 = omega arith in put_all (rw none at c.loop-i.invariant)
