-- The words behind are the text's first and those behind it. Assumes nothing.
use Rattle.std.proofs.Common.{ℕ, List, ◌+◌, take, drop, sym, arith}
use Rattle.lines.specs.Console.{spoken}
use Rattle.lines.specs.Words.{until}
use Rattle.lines.proofs.Cutting.{cut_at, one_word, too_many}
use Rattle.lines.proofs.parsing.after_three.Goals as goal

pub returns-in-Some : goal.returns-in-Some
returns-in-Some c =
    let a = c.args in
    let rest : List ℕ = a.rest.now in
    rw (cut_at 32 _ rest (omega (arith, c.in-Some.ensures)))
    (sym (too_many a.w.now a.a.now a.b.now (take (until 32 rest) rest) (drop (until 32 rest + 1) rest)))

pub returns-in-None : goal.returns-in-None
unfolding spoken
returns-in-None c =
    rw (one_word 32 c.args.rest.now (omega (arith, c.in-None.ensures)), c.with_three.ensures) cc
