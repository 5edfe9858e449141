-- `delete` meets its contract. Assumes nothing.
use Rattle.model.proofs.Edition.{edition}
use mathlib.Core.Path.{refl, sym, ◌∙◌}
use Rattle.store.proofs.laws.Refused.{refuses-some, leaving-err}
use Rattle.changes.proofs.laws.Updating.{ends, delete-refused, delete-done}
use Rattle.changes.proofs.sure.delete.Goals as goal

pub returns-in_err-r : goal.returns-in_err-r
returns-in_err-r c =
    let a = c.args in let e = c.in_err-r in
    leaving-err _ a.s.now _ c.from_residual.ensures.1 ∙ delete-refused a.l.least a.s.now a.key _ e.ensures.number (refuses-some e.field-0.0)

pub delete_at-requires : goal.delete_at-requires
delete_at-requires c =
    let g = c.in_ok-r.ensures in
    (ends (edition c.args.l) c.args.s.now c.args.key (sym g.number), g.leaf.version, g.leaf.leaf)

pub returns : goal.returns
returns c =
    let a = c.args in let u = c.delete_at.ensures in
    delete-done a.l.least a.s.now a.key 0 c.in_ok-r.ensures.number refl _ _ u.number u.bytes
