-- `child` meets its contract. Assumes nothing.
use mathlib.Core.List.{List}
use mathlib.Core.Path.{ap, sym, ◌∙◌}
use Rattle.model.specs.Walk.{around}
use Rattle.model.specs.declared.Pair.{Pair}
use Rattle.walk.proofs.child.Goals as goal

pub own_router-requires : goal.own_router-requires
own_router-requires c =
    let i = c.requires.0 in
    rw (c.head_of-h.ensures, c.part-p.ensures.0) (i.stands, rw (i.pairs c.args.v) at c.requires.2)

pub returns : goal.returns
returns c =
    let a = c.args in
    let i = c.requires.0 in
    sym (ap (λ (xs : List Pair). (around a.key xs).own.value) (i.pairs a.v)
    ∙ rw (c.head_of-h.ensures, c.part-p.ensures.0) at c.own_router.ensures.own)
