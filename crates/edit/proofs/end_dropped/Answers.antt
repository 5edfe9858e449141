-- `edit::end_dropped` meets its contract. Assumes nothing.
use mathlib.Core.Path.{ap, sym, ◌∙◌}
use Rattle.model.specs.Layout.{encode_page, decode_page}
use Rattle.edit.specs.Change.{first}
use Rattle.edit.proofs.laws.Change.{first-none}
use Rattle.edit.proofs.end_dropped.Goals as goal

pub returns-else-c-ne0 : goal.returns-else-c-ne0
returns-else-c-ne0 c =
    let a = c.args in
    sym (ap (encode_page a.l.least) (first-none a.w a.c (decode_page a.l.least a.page.now) c.if-c-ne0.false)
    ∙ c.requires.0.same)

pub returns-then-c-ne0 : goal.returns-then-c-ne0
unfolding first
returns-then-c-ne0 c = c.sift.ensures
