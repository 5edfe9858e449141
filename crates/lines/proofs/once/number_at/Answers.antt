-- Digits with the mark behind them, one at least and their number small enough, are a number. Assumes nothing.
use Rattle.std.proofs.Common.{arith}
use Rattle.lines.proofs.LineParts.{number-here}
use Rattle.lines.proofs.once.number_at.Goals as goal

pub returns : goal.returns
returns c =
    let a = c.args in
    let r = c.digits_at-value.result in
    let d = c.digits_at-value.ensures in
    number-here a.s.now a.from a.mark r.value r.end d
    (omega arith) (omega (arith, d.sized, d.few)) c.if-s-end.false (omega arith)
