-- `find` meets its contract. Assumes nothing.
use mathlib.Core.Path.{◌∙◌}
use Rattle.walk.proofs.laws.Scan.{next-found}
use Rattle.walk.proofs.search.find.Goals as goal

pub returns : goal.returns
returns c =
    let a = c.args in
    c.answer_at.ensures ∙ next-found a.page.now a.v a.key a.n c.place_of.result c.place_of.ensures
