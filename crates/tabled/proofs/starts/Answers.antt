-- `starts` meets its contract. Assumes nothing.
use native.Mathlib.Omega.{arith}
use mathlib.Core.List.{List}
use mathlib.Core.Path.{ap, sym, ◌∙◌}
use Rattle.model.specs.declared.Pair.{Pair}
use Rattle.model.specs.Layout.{page_of}
use Rattle.page.specs.Head.{read_head}
use Rattle.model.specs.Near.{starts_by}
use Rattle.tabled.proofs.laws.Starts.{starts-next}
use Rattle.tabled.proofs.starts.Goals as goal

pub next_place-requires : goal.next_place-requires
next_place-requires c = (rw (c.head_of-h.ensures, c.part-p.ensures.0) c.requires.0.stands, omega arith)

pub returns : goal.returns
returns c =
    let a = c.args in
    let i = c.requires.0 in
    let p = page_of a.l.least a.s.now a.n in
    rw (c.head_of-h.ensures, c.part-p.ensures.0)
    (starts-next p a.v a.key (read_head a.l.least p).count c.next_place.result i.stands
    (rw (c.head_of-h.ensures, c.part-p.ensures.0) at c.next_place.ensures)
    ∙ sym (ap (λ (xs : List Pair). starts_by a.key xs) (i.pairs a.v)))
