-- One thing is put behind another. Assumes nothing.
use Rattle.std.proofs.Common.{arith}
use Rattle.lines.proofs.Laying.{length-setting, then-put}
use Rattle.lines.proofs.saying.put_setting.Goals as goal

pub returns : goal.returns
returns c =
    let long = length-setting c.args.key c.args.value in
    then-put c.put_number-a.ensures c.put_named.ensures (omega arith)
