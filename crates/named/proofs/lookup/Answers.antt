-- `lookup` meets its contract: the layer's refusals, then the store's call. Assumes nothing.
use mathlib.Core.Path.{refl, ap, ◌∙◌}
use Rattle.model.specs.Kinds.{unknown}
use Rattle.model.specs.Named.{lookup_named}
use Rattle.store.proofs.laws.Refused.{refuses-some, looked-err}
use Rattle.named.proofs.laws.Answers.{refuses, goes}
use Rattle.named.proofs.lookup.Goals as goal

pub returns-in_err-unknown : goal.returns-in_err-unknown
unfolding lookup_named
returns-in_err-unknown c =
    let e = c.in_err-unknown in
    looked-err _ _ c.from_residual.ensures.1
    ∙ refuses _ _ _ _ (e.ensures ∙ ap unknown c.kind_of.ensures) (refuses-some e.field-0.0)

pub returns : goal.returns
unfolding lookup_named
returns c =
    c.view_value.ensures ∙ goes 0 _ _ _ (c.in_ok-unknown.ensures ∙ ap unknown c.kind_of.ensures) refl
