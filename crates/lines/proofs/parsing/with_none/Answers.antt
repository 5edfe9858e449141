-- Each test tells whether the word is the one asked for. Assumes nothing.
use Rattle.lines.specs.Console.{ascii}
use Rattle.lines.proofs.Numbers.{no_word}
use Rattle.lines.proofs.parsing.with_none.Goals as goal

pub returns-else-eq-3 : goal.returns-else-eq-3
returns-else-eq-3 c =
    let w = c.args.w.now in
    rw (
      no_word w (ascii "open") c.as_slice.ensures c.eq.ensures c.if-eq.false,
      no_word w (ascii "commit") c.as_slice-else-eq.ensures c.eq-else-eq.ensures c.if-eq-2.false,
      no_word w (ascii "abandon") c.as_slice-else-eq-2.ensures c.eq-else-eq-2.ensures c.if-eq-3.false,
    )
