-- `prune_in` meets its contract. Assumes nothing.
use mathlib.Core.Path.{refl, sym, ◌∙◌}
use Rattle.store.proofs.laws.Refused.{refuses-some, leaving-err}
use Rattle.reads.proofs.laws.Guard.{guard-sound}
use Rattle.changes.specs.Pruning.{pruning}
use Rattle.changes.proofs.laws.Pruning.{prune-first, prune-refused, prune-done, upto-current}
use Rattle.changes.proofs.pruning.prune_in.Goals as goal

pub returns-in_err-guard_pruning : goal.returns-in_err-guard_pruning
returns-in_err-guard_pruning c =
    let a = c.args in let e = c.in_err-guard_pruning in
    leaving-err _ a.s.now _ c.from_residual.ensures.1 ∙ prune-refused a.l.least a.s.now a.v c.if-l-le4.false _ e.ensures (refuses-some e.field-0.0)

pub returns-then-l-le4 : goal.returns-then-l-le4
returns-then-l-le4 c = let a = c.args in prune-first a.l.least a.s.now a.v c.if-l-le4.true

pub prune-requires : goal.prune-requires
prune-requires c =
    let a = c.args in
    let z = sym c.in_ok-guard_pruning.ensures in
    (c.if-l-le4.false, guard-sound a.l.least a.s.now (pruning a.v) z, upto-current a.l.least a.s.now a.v z)

pub returns : goal.returns
returns c =
    let a = c.args in
    prune-done a.l.least a.s.now a.v c.if-l-le4.false 0 c.in_ok-guard_pruning.ensures refl _ c.prune.ensures
