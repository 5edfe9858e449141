-- `difference_in` meets its contract. Assumes nothing.
use Rattle.model.proofs.Edition.{edition}
use mathlib.Core.Path.{refl, sym, ◌∙◌}
use Rattle.store.proofs.laws.Refused.{refuses-some, listed-err}
use Rattle.reads.proofs.laws.Differing.{difference-refused, difference-done, reads_old, reads-new}
use Rattle.reads.proofs.differing.difference_in.Goals as goal

pub returns-in_err-guard_differing : goal.returns-in_err-guard_differing
returns-in_err-guard_differing c =
    let a = c.args in let e = c.in_err-guard_differing in
    listed-err _ a.list.now _ c.from_residual.ensures.1
    ∙ difference-refused a.l.least a.s.now a.old a.new a.list.now _ e.ensures (refuses-some e.field-0.0)

pub difference-requires : goal.difference-requires
difference-requires c =
    let a = c.args in
    let z = sym c.in_ok-guard_differing.ensures in
    (reads_old (edition c.args.l) a.s.now a.old a.new z, reads-new (edition c.args.l) a.s.now a.old a.new z)

pub returns : goal.returns
returns c =
    let a = c.args in
    c.difference.ensures ∙ difference-done a.l.least a.s.now a.old a.new a.list.now 0 c.in_ok-guard_differing.ensures refl
