use Rattle.parts.specs.Kept.{pages_of}
use Rattle.parts.proofs.laws.Kept.{part_in, short, shown}
use Rattle.page.proofs.laws.Read.{start_of}
use Rattle.model.specs.Store.{page}
use Rattle.model.specs.Layout.{page_of}
use Rattle.model.specs.Page.{Page}
use mathlib.Core.Path.{◌≡◌, sym, ap, ◌∙◌}
use Rattle.parts.proofs.is_active.Goals as goal

pub part-requires : goal.part-requires
part-requires c = let k = c.requires.0 in (part_in k c.requires.1, short k)

pub returns : goal.returns
returns c =
    let k = c.requires.0 in
    let e : c.head_of.result.start ≡ (page (pages_of c.args.l c.args.s.now) c.args.n).start
    = ap (λ h. h.start) c.head_of.ensures
    ∙ rw c.part.ensures.0
    (sym (start_of c.args.l.least (page_of c.args.l.least c.args.s.now c.args.n)))
    ∙ ap (λ (p : Page). p.start) (shown k c.requires.1) in
    rw e
