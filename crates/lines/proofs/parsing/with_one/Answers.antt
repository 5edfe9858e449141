-- Each test tells whether the word is the one asked for. Assumes nothing.
use Rattle.lines.specs.Console.{ascii}
use Rattle.lines.proofs.Numbers.{no_word}
use Rattle.lines.proofs.parsing.with_one.Goals as goal

pub returns-else-eq-2 : goal.returns-else-eq-2
returns-else-eq-2 c =
    let w = c.args.w.now in
    rw (
      c.in-Some.is,
      no_word w (ascii "store") c.as_slice.ensures c.eq.ensures c.if-eq.false,
      no_word w (ascii "delete") c.as_slice-else-eq.ensures c.eq-else-eq.ensures c.if-eq-2.false,
    )
