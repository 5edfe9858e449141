-- A text that begins with one of the three words and a space, and goes on with as many numbers, is that word's line. Assumes nothing.
use Rattle.std.proofs.Common.{List, ℕ, refl, arith}
use Rattle.lines.specs.Console.{ascii}
use Rattle.lines.specs.Words.{until}
use Rattle.lines.proofs.LineParts.{begins, one-here, two_here}
use Rattle.lines.proofs.once.at_once.Goals as goal

pub returns-then-starts_with : goal.returns-then-starts_with
unfolding until
returns-then-starts_with c =
    let p : List ℕ = c.args.piece.now in
    let word = begins p (ascii "get") c.if-starts_with.ensures.value (omega arith) refl refl in
    two_here p (ascii "get") word c.in_ok-t.t _ c.in_ok-t.ensures refl

pub returns-then-starts_with-2 : goal.returns-then-starts_with-2
unfolding until
returns-then-starts_with-2 c =
    let p : List ℕ = c.args.piece.now in
    let word = begins p (ascii "insert") c.if-starts_with-2.ensures.value (omega arith) refl refl in
    two_here p (ascii "insert") word c.in_ok-t-2.t _ c.in_ok-t-2.ensures refl

pub returns-then-starts_with-3 : goal.returns-then-starts_with-3
unfolding until
returns-then-starts_with-3 c =
    let p : List ℕ = c.args.piece.now in
    let word = begins p (ascii "delete") c.if-starts_with-3.ensures.value (omega arith) refl refl in
    one-here p (ascii "delete") word c.in_ok-n.n _ c.in_ok-n.ensures refl
