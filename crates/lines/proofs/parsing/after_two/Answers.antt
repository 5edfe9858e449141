-- The words behind are the text's first and those behind it. Assumes nothing.
use Rattle.std.proofs.Common.{arith}
use Rattle.lines.specs.Console.{spoken}
use Rattle.lines.proofs.Cutting.{cut-found, one_word}
use Rattle.lines.proofs.parsing.after_two.Goals as goal

pub returns-in-Some : goal.returns-in-Some
returns-in-Some c =
    let here = c.in-Some.ensures in
    rw (cut-found 32 _ c.args.rest.now c.in-Some.e here.0 here.1) c.after_three.ensures

pub returns-in-None : goal.returns-in-None
unfolding spoken
returns-in-None c = rw (one_word 32 c.args.rest.now (omega (arith, c.in-None.ensures)), c.with_two.ensures) cc
