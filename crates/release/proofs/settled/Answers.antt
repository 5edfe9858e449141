-- `settled` meets its contract. Assumes nothing.
use native.Mathlib.Omega.{arith}
use mathlib.Core.Path.{◌∙◌}
use borrow.Author.Tests.{ne_eqb}
use Rattle.release.proofs.laws.Opened.{reads-upto, next_low, settled-start, settled-end, settled-apart}
use Rattle.release.proofs.settled.Goals as goal

pub overflow_add-c : goal.overflow_add-c
overflow_add-c c = omega (arith, next_low c.requires.0)

pub has-requires : goal.has-requires
has-requires c = let o = c.requires.0 in (reads-upto o _ (omega arith) (omega arith), c.requires.1)

pub returns-then-e-c : goal.returns-then-e-c
returns-then-e-c c = c.has.ensures ∙ settled-start c.requires.0 c.args.e c.if-e-c.true

pub overflow_add-c-else-e-c : goal.overflow_add-c-else-e-c
overflow_add-c-else-e-c c = omega (arith, next_low c.requires.0)

pub overflow_add-c-else-e-c-2 : goal.overflow_add-c-else-e-c-2
overflow_add-c-else-e-c-2 c = omega (arith, next_low c.requires.0)

pub has-requires-else-e-c-2 : goal.has-requires-else-e-c-2
has-requires-else-e-c-2 c = let o = c.requires.0 in (reads-upto o _ (omega arith) (omega arith), c.requires.1)

pub returns-then-e-c-2 : goal.returns-then-e-c-2
returns-then-e-c-2 c =
    rw (ne_eqb _ _ c.if-e-c-2.true) (settled-apart c.requires.0 c.args.e c.if-e-c.false c.if-e-c-2.true)

pub returns-else-e-c-2 : goal.returns-else-e-c-2
returns-else-e-c-2 c =
    let o = c.requires.0 in
    c.has-else-e-c-2.ensures ∙ settled-end o c.args.e c.if-e-c.false c.if-e-c-2.false
