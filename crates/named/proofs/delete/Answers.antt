-- `delete` meets its contract: the layer's refusals, then the store's call. Assumes nothing.
use mathlib.Core.Path.{refl, ap, ◌∙◌}
use Rattle.model.specs.Kinds.{unknown}
use Rattle.model.specs.Named.{delete_named}
use Rattle.store.proofs.laws.Refused.{refuses-some, leaving-err}
use Rattle.named.proofs.laws.Answers.{refuses, goes}
use Rattle.named.proofs.delete.Goals as goal

pub returns-in_err-unknown : goal.returns-in_err-unknown
unfolding delete_named
returns-in_err-unknown c =
    let e = c.in_err-unknown in
    leaving-err _ c.args.s.now _ c.from_residual.ensures.1
    ∙ refuses _ _ _ _ (e.ensures ∙ ap unknown c.kind_of.ensures) (refuses-some e.field-0.0)

pub returns : goal.returns
unfolding delete_named
returns c =
    c.delete.ensures ∙ goes 0 _ _ _ (c.in_ok-unknown.ensures ∙ ap unknown c.kind_of.ensures) refl
