-- `put` meets its contract. Assumes nothing.
use Rattle.differ.proofs.laws.Listing.{told_same, told-one}
use Rattle.model.proofs.reading.Telling.{written_none, write-not}
use Rattle.model.specs.declared.Delta.{Delta}
use Rattle.model.specs.Telling.{written, deltas}
use lib.ListN.{length}
use mathlib.Core.Bool.{Bool}
use mathlib.Core.List.{List, [], ◌∷◌}
use mathlib.Core.Path.{refl, ap, sym, ◌∙◌}
use native.Mathlib.Omega.{arith}
use Rattle.differ.proofs.telling.put.Goals as goal
use Rattle.differ.proofs.telling.put.Goals.{then-write, else-write}

pub returns-then-d-eq3 : goal.returns-then-d-eq3
returns-then-d-eq3 c =
    let a = c.args in
    rw (told_same a.d c.if-d-eq3.true)
    (record { count = omega arith; list = sym (written_none deltas a.write a.list.now a.k) })

pub put_four-requires : goal.put_four-requires
put_four-requires c =
    omega (arith, c.requires.room c.if-write.true, ap (λ (ds : List Delta). length ds) (told-one c.args.d c.if-d-eq3.false))

pub overflow_add-result : goal.overflow_add-result
overflow_add-result c = omega (arith, c.requires.few, ap (λ (ds : List Delta). length ds) (told-one c.args.d c.if-d-eq3.false))

pub returns : goal.returns
returns c =
    let a = c.args in
    rw (told-one a.d c.if-d-eq3.false)
    (record {
      count = refl;
      list = elim c.if-write.branch [
        | then-write w ↦ w.list-is ∙ w.put_four.ensures
            ∙ ap (λ (b : Bool). written deltas b a.list.now a.k (a.d ∷ [])) (sym w.if-write.true)
        | else-write w ↦ w.list-is ∙ sym (write-not deltas a.list.now a.k (a.d ∷ []))
            ∙ ap (λ (b : Bool). written deltas b a.list.now a.k (a.d ∷ [])) (sym w.if-write.false)
      ];
    })
