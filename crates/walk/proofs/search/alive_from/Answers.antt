-- `alive_from` meets its contract: the first word tells the key. Assumes nothing.
use Prim.Native.Nat.{◌+◌, ◌*◌, ◌/◌}
use mathlib.Core.Path.{◌≡◌}
use native.Mathlib.Omega.{arith}
use borrow.Author.Tests.{lt-leb, le-leb}
use Rattle.page.proofs.laws.Whole.{key-first}
use Rattle.walk.specs.Scan.{entry}
use Rattle.walk.proofs.search.alive_from.Goals as goal
use Rattle.walk.proofs.search.alive_from.Goals.{After-first_word}

key : (c : After-first_word) → let a = c.args in c.first_word.result / 256 ≡ (entry a.page.now a.i).key
key c =
    let a = c.args in
    key-first a.page.now (128 + 96 * a.i) c.first_word.result c.first_word.ensures

pub returns-else-low-first_word : goal.returns-else-low-first_word
returns-else-low-first_word c =
    let a = c.args in
    rw (lt-leb (a.low * 256) c.first_word.result (omega arith), lt-leb a.low (entry a.page.now a.i).key (omega (arith, key (goal.at.returns-else-low-first_word c).After-first_word, c.if-low-first_word.false)))

pub returns-then-low-first_word : goal.returns-then-low-first_word
returns-then-low-first_word c =
    let a = c.args in
    simp (le-leb a.low (entry a.page.now a.i).key (omega (arith, key (goal.at.returns-then-low-first_word c).After-first_word, c.if-low-first_word.true)))
    c.alive_in.ensures
