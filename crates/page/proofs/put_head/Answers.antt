-- `page::put_head` meets its contract: the front is written at the width that the limits have. Assumes nothing.
use mathlib.Core.Path.{◌∙◌}
use Rattle.page.proofs.laws.Head.{put_five, put_six}
use Rattle.page.proofs.put_head.Goals as goal

pub returns-then-l-le4 : goal.returns-then-l-le4
returns-then-l-le4 c =
    let a = c.args in
    c.put_front.ensures ∙ put_five a.l.least a.page.now a.h c.if-l-le4.true

pub returns-else-l-le4 : goal.returns-else-l-le4
returns-else-l-le4 c =
    let a = c.args in
    c.put_front-else-l-le4.ensures ∙ put_six a.l.least a.page.now a.h c.if-l-le4.false
