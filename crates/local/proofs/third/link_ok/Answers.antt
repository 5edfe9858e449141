-- `local::third::link_ok` meets its contract: a leaf's entry, or a router with the front of the page below. Assumes nothing.
use native.Mathlib.Omega.{arith}
use borrow.Author.Rules.{rules}
use Rattle.page.proofs.laws.Read.{level-lt}
use Rattle.local.proofs.laws.Third.{link-leaf, link-router}
use Rattle.local.proofs.third.link_ok.Goals as goal

pub returns-then-h-eq1 : goal.returns-then-h-eq1
returns-then-h-eq1 c =
    let a = c.args in rw (link-leaf a.l.least a.s.now a.n a.e a.h c.requires.1 c.if-h-eq1.true) (search rules)

pub overflow_add-result : goal.overflow_add-result
overflow_add-result c = omega (arith, rw (← c.head_of-c.ensures) at (level-lt c.args.l.least c.part.result.now))

pub returns-then-lies_in-2 : goal.returns-then-lies_in-2
returns-then-lies_in-2 c =
    let a = c.args in
    rw (
      link-router a.l.least a.s.now a.n a.e a.h c.requires.1 c.if-h-eq1.false (c.requires.2 c.if-h-eq1.false),
      ← c.part.ensures.0,
      ← c.head_of-c.ensures,
    )
    (search rules)

pub returns-else-lies_in-2 : goal.returns-else-lies_in-2
returns-else-lies_in-2 c =
    let a = c.args in
    rw (
      link-router a.l.least a.s.now a.n a.e a.h c.requires.1 c.if-h-eq1.false (c.requires.2 c.if-h-eq1.false),
      ← c.part.ensures.0,
      ← c.head_of-c.ensures,
    )
    (search rules)
