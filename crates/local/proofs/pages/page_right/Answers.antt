-- `local::pages::page_right` meets its contract: the page's number, its level, and the page. Assumes nothing.
use mathlib.Core.Logic.{⊎_elim}
use mathlib.Core.Path.{sym}
use native.Mathlib.Omega.{arith}
use borrow.Author.Rules.{rules}
use Rattle.local.proofs.laws.Right.{page-low, page-far, right-is}
use Rattle.local.proofs.pages.page_right.Goals as goal

pub returns-then-n-lt5 : goal.returns-then-n-lt5
returns-then-n-lt5 c =
    let a = c.args in
    ⊎_elim (λ h. sym (page-low a.l.least a.s.now a.size c.requires.0.sized a.level a.n c.requires.1 h))
    (λ h. sym (page-far a.l.least a.s.now a.size c.requires.0.sized a.level a.n c.requires.1 h.1)) c.then-n-lt5.either

pub returns-then-head_of-level : goal.returns-then-head_of-level
returns-then-head_of-level c =
    let a = c.args in
    rw (
      right-is a.l.least a.s.now a.size c.requires.0.sized a.level a.n c.requires.1 (omega arith) (omega arith),
      ← c.requires.0.last,
      ← c.part-p.ensures.0,
      ← c.head_of.ensures,
    )
    (search rules)

pub returns-else-head_of-level : goal.returns-else-head_of-level
returns-else-head_of-level c =
    let a = c.args in
    rw (
      right-is a.l.least a.s.now a.size c.requires.0.sized a.level a.n c.requires.1 (omega arith) (omega arith),
      ← c.part-p.ensures.0,
      ← c.head_of.ensures,
    )
    (search rules)
