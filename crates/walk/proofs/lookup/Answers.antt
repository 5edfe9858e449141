-- `lookup` meets its contract. Assumes nothing.
use Prim.Native.Nat.{ℕ}
use mathlib.Core.Path.{ap, sym, ◌∙◌}
use mathlib.Core.List.{List}
use Rattle.model.specs.Layout.{decode}
use Rattle.model.specs.Walk.{find}
use Rattle.model.specs.Store.{page}
use Rattle.model.specs.Page.{pairs_at}
use Rattle.model.specs.declared.Pair.{Pair}
use Rattle.store.proofs.laws.Sure.{few}
use Rattle.walk.proofs.laws.Scan.{next-found}
use Rattle.walk.proofs.laws.Sure.{covers-inside}
use Rattle.walk.proofs.lookup.Goals as goal
use Rattle.walk.proofs.lookup.Goals.{After-head_of-h}

pub part-p-requires : goal.part-p-requires
part-p-requires c =
    let r = c.requires.0 in
    ((covers-inside r _ _ _ c.leaf_for.ensures.covers).part, few r.edition c.args.s.now r.sound)

pub place_of-i-requires : goal.place_of-i-requires
place_of-i-requires c =
    let i = covers-inside c.requires.0 _ _ _ c.leaf_for.ensures.covers in
    rw (c.head_of-h.ensures, c.part-p.ensures.0) i.stands

pub answer_at-requires : goal.answer_at-requires
answer_at-requires c = place_of-i-requires (goal.at.answer_at-requires c).After-head_of-h

pub returns : goal.returns
returns c =
    let a = c.args in
    let i = covers-inside c.requires.0 _ _ _ c.leaf_for.ensures.covers in
    rw (c.head_of-h.ensures, c.part-p.ensures.0) at
    (c.answer_at.ensures ∙ next-found _ a.v a.key _ c.place_of-i.result c.place_of-i.ensures)
    ∙ sym (ap (λ (n : ℕ). find a.key (pairs_at a.v (page (decode a.l.least a.s.now).pages n)))
    (sym c.leaf_for.ensures.is)
    ∙ ap (λ (xs : List Pair). find a.key xs) (i.pairs a.v))
