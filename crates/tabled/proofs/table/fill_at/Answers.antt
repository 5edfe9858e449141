-- `table::fill_at` meets its contract. Assumes nothing.
use native.Mathlib.Omega.{arith}
use mathlib.Core.Path.{sym, ◌∙◌}
use Rattle.tabled.proofs.laws.Filling.{filled-not}
use Rattle.tabled.proofs.table.fill_at.Goals as goal

pub page_right-requires : goal.page_right-requires
page_right-requires c = (c.requires.0, omega (arith, c.requires.2))

pub returns-else-page_right : goal.returns-else-page_right
returns-else-page_right c =
    let a = c.args in
    filled-not a.l.least a.s.now a.q.size c.requires.0.sized a.q.version a.q.low a.q.high a.level a.n
    c.requires.2 c.requires.4 (sym c.page_right.ensures ∙ c.if-page_right.false)
    a.table.now c.requires.5

pub fill_page-requires : goal.fill_page-requires
fill_page-requires c = (
  c.requires.0,
  c.requires.1,
  c.requires.2,
  c.requires.3,
  sym c.page_right.ensures ∙ c.if-page_right.true,
  c.requires.5,
)
