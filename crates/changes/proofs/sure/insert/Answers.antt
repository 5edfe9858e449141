-- `insert` meets its contract. Assumes nothing.
use Rattle.model.proofs.Edition.{edition}
use mathlib.Core.Path.{refl, sym, ◌∙◌}
use Rattle.store.proofs.laws.Refused.{refuses-some, leaving-err}
use Rattle.changes.proofs.laws.Updating.{enters, insert-refused, insert-done}
use Rattle.changes.proofs.sure.insert.Goals as goal

pub returns-in_err-r : goal.returns-in_err-r
returns-in_err-r c =
    let a = c.args in let e = c.in_err-r in
    leaving-err _ a.s.now _ c.from_residual.ensures.1 ∙ insert-refused a.l.least a.s.now a.key a.value _ e.ensures.number (refuses-some e.field-0.0)

pub insert_at-requires : goal.insert_at-requires
insert_at-requires c =
    let g = c.in_ok-r.ensures in
    (enters (edition c.args.l) c.args.s.now c.args.key (sym g.number), g.leaf.version, g.leaf.leaf)

pub returns : goal.returns
returns c =
    let a = c.args in let u = c.insert_at.ensures in
    insert-done a.l.least a.s.now a.key a.value 0 c.in_ok-r.ensures.number refl _ _ u.number u.bytes
