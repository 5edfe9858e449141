-- A line of at most 80 bytes is its words. Assumes nothing.
use Rattle.std.proofs.Common.{length, arith, le-leb}
use borrow.Author.Tests.{lt-leb}
use Rattle.lines.specs.Console.{spoken, command_of}
use Rattle.lines.proofs.Cutting.{cut-found, one_word}
use Rattle.lines.proofs.parsing.parse.Goals as goal

pub returns-then-line-gt80 : goal.returns-then-line-gt80
unfolding command_of
returns-then-line-gt80 c = rw (lt-leb (length c.args.line.now) 80 c.if-line-gt80.true)

pub returns-in-Some : goal.returns-in-Some
unfolding command_of
returns-in-Some c =
    let line = c.args.line.now in
    let here = c.in-Some.ensures in
    rw (le-leb (length line) 80 c.if-line-gt80.false, cut-found 32 _ line c.in-Some.e here.0 here.1) c.after_one.ensures

pub returns-in-None : goal.returns-in-None
unfolding command_of spoken
returns-in-None c =
    let line = c.args.line.now in
    rw (le-leb (length line) 80 c.if-line-gt80.false, one_word 32 line (omega (arith, c.in-None.ensures))) c.with_none.ensures
