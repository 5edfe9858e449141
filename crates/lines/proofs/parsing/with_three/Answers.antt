-- Each test tells whether the word is the one asked for. Assumes nothing.
use Rattle.lines.specs.Console.{ascii}
use Rattle.lines.proofs.Numbers.{no_word}
use Rattle.lines.proofs.parsing.with_three.Goals as goal

pub returns-in_default : goal.returns-in_default
returns-in_default c =
    let here = c.in-Some-Some-Some in
    rw (
      here.is-0,
      here.is-1,
      here.is-2,
      no_word c.args.w.now (ascii "range") c.as_slice.ensures c.eq.ensures c.if-eq.false,
    )
