-- `next` meets its contract. Assumes nothing.
use Rattle.differ.specs.Merge.{compared}
use mathlib.Core.Path.{ap₂, ◌∙◌}
use Rattle.differ.proofs.next.Goals as goal

pub returns : goal.returns
returns c = c.compared.ensures ∙ ap₂ compared c.first_from-x.ensures c.first_from-y.ensures
