-- What stands behind the last newline, obeyed. Assumes nothing.
use native.Mathlib.Omega.{arith}
use Rattle.console.proofs.Telling.{ended}
use Rattle.console.proofs.filling.end.Goals as goal

pub returns : goal.returns
returns c =
    let a = c.answer-o.ensures in
    ended c.last-heard.result c.last-heard.ensures a (omega (arith, a.room, c.out-1.given))
