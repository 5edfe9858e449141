-- `store::header` meets its contract: the header is read at the widths that the limits have. Assumes nothing.
use mathlib.Core.Path.{◌∙◌}
use Rattle.store.proofs.laws.Header.{header-first, header-second}
use Rattle.store.proofs.header.Goals as goal

pub returns-then-l-le4 : goal.returns-then-l-le4
returns-then-l-le4 c = c.header_by.ensures ∙ header-first _ _ c.if-l-le4.true

pub returns-else-l-le4 : goal.returns-else-l-le4
returns-else-l-le4 c = c.header_by-else-l-le4.ensures ∙ header-second _ _ c.if-l-le4.false
