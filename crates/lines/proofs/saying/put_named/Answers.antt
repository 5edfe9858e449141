-- One thing is put behind another. Assumes nothing.
use Rattle.std.proofs.Common.{arith}
use Rattle.lines.proofs.Laying.{length-named, then-put}
use Rattle.lines.proofs.saying.put_named.Goals as goal

pub returns : goal.returns
returns c =
    let p = c.put-a in
    let long = length-named c.args.word.now c.args.n in
    then-put p.ensures (then-put c.put_number-b.ensures c.put.ensures (omega (arith, p.auto.out, p.ensures.behind)))
    (omega arith)
