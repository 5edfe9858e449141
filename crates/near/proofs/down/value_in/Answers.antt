-- `value_in` meets its contract. Assumes nothing.
use mathlib.Core.List.{List}
use mathlib.Core.Path.{ap, sym, ◌∙◌}
use Rattle.model.specs.declared.Pair.{Pair}
use Rattle.model.specs.Walk.{find}
use Rattle.near.proofs.down.value_in.Goals as goal

pub find-requires : goal.find-requires
find-requires c = rw (c.head_of-h.ensures, c.part-p.ensures.0) c.requires.0.stands

pub returns : goal.returns
returns c =
    let a = c.args in
    rw (c.head_of-h.ensures, c.part-p.ensures.0) at c.find.ensures
    ∙ sym (ap (λ (xs : List Pair). find a.key xs) (c.requires.0.pairs a.v))
