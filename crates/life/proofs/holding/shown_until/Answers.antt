-- `holding::shown_until` meets its contract. Assumes nothing.
use mathlib.Core.Path.{sym, ◌∙◌}
use Rattle.life.proofs.holding.shown_until.Goals as goal

pub page_until-requires : goal.page_until-requires
page_until-requires c =
    let p = c.requires in
    (rw (c.head_of-h.ensures, c.part-p.ensures.0) p.0.stands, p.2)

pub returns : goal.returns
returns c =
    let i = c.requires.0 in
    let u = rw (c.head_of-h.ensures, c.part-p.ensures.0) at c.page_until.ensures in
    record { below = u.below; above = u.above; still = λ w a b. i.pairs w ∙ u.still w a b ∙ sym (i.pairs _) }
