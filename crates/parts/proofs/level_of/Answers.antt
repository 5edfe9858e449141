use Rattle.parts.proofs.laws.Kept.{part_in, short, shown}
use Rattle.page.proofs.laws.Read.{level-of}
use Rattle.model.specs.Layout.{page_of}
use Rattle.model.specs.Page.{Page}
use mathlib.Core.Path.{sym, ap, ◌∙◌}
use Rattle.parts.proofs.level_of.Goals as goal

pub part-requires : goal.part-requires
part-requires c = let k = c.requires.0 in (part_in k c.requires.1, short k)

pub returns : goal.returns
returns c =
    let k = c.requires.0 in
    ap (λ h. h.level) c.head_of.ensures ∙ rw c.part.ensures.0
    (sym (level-of c.args.l.least (page_of c.args.l.least c.args.s.now c.args.n)))
    ∙ ap (λ (p : Page). p.level) (shown k c.requires.1)
