-- `page::head_of` meets its contract: the front is read at the width that the limits have. Assumes nothing.
use mathlib.Core.Path.{◌∙◌}
use Rattle.page.specs.declared.Head.{Head}
use Rattle.page.proofs.laws.Head.{front-five, front-six}
use Rattle.page.proofs.head_of.Goals as goal

nil : Head
nil = record { level = 0; count = 0; start = 0; end = 0 }

pub returns-then-l-le4 : goal.returns-then-l-le4
returns-then-l-le4 c =
    let a = c.args in
    c.front.ensures ∙ front-five a.l.least a.page.now nil c.if-l-le4.true

pub returns-else-l-le4 : goal.returns-else-l-le4
returns-else-l-le4 c =
    let a = c.args in
    c.front-else-l-le4.ensures ∙ front-six a.l.least a.page.now nil c.if-l-le4.false
