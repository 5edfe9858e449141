-- `is_alive` meets its contract. Assumes nothing.
use mathlib.Core.List.{List}
use mathlib.Core.Path.{ap, sym, ◌∙◌}
use Prim.Native.Nat.{ℕ}
use Rattle.model.specs.Calls.{is_some}
use Rattle.model.specs.Layout.{decode}
use Rattle.model.specs.Walk.{find}
use Rattle.model.specs.Store.{page}
use Rattle.model.specs.Page.{pairs_at}
use Rattle.model.specs.declared.Pair.{Pair}
use Rattle.store.proofs.laws.Sure.{few}
use Rattle.walk.proofs.laws.Sure.{covers-inside}
use Rattle.changes.proofs.laws.Updating.{found-is}
use Rattle.changes.proofs.updating.is_alive.Goals as goal

pub part-p-requires : goal.part-p-requires
part-p-requires c =
    let p = c.requires in
    ((covers-inside p.0 _ _ _ p.1.covers).part, few p.0.edition c.args.s.now p.0.sound)

pub find-requires : goal.find-requires
find-requires c =
    let p = c.requires in
    let i = covers-inside p.0 _ _ _ p.1.covers in
    rw (c.head_of-h.ensures, c.part-p.ensures.0) i.stands

pub returns : goal.returns
returns c =
    let a = c.args in
    let p = c.requires in
    let i = covers-inside p.0 _ _ _ p.1.covers in
    let told = rw (c.head_of-h.ensures, c.part-p.ensures.0) at c.find.ensures in
    let is = ap (λ (n : ℕ). find a.key (pairs_at a.w (page (decode a.l.least a.s.now).pages n))) (sym p.1.is)
    ∙ ap (λ (xs : List Pair). find a.key xs) (i.pairs a.w) in
    c.is_some.ensures ∙ found-is c.find.result ∙ ap is_some (told ∙ sym is)
