-- `lookup_kind` meets its contract: the layer's refusals, then the store's call. Assumes nothing.
use mathlib.Core.Path.{refl, ap, ◌∙◌}
use Rattle.std.specs.Prelude.{Option}
use Rattle.model.specs.declared.Kind.{Kind}
use Rattle.model.specs.Kinds.{unlike}
use Rattle.model.specs.Named.{kind_named}
use Rattle.store.proofs.laws.Refused.{refuses-some, looked-err}
use Rattle.named.proofs.laws.Answers.{refuses, goes}
use Rattle.named.proofs.lookup_kind.Goals as goal

pub returns-in_err-unlike : goal.returns-in_err-unlike
unfolding kind_named
returns-in_err-unlike c =
    let e = c.in_err-unlike in
    looked-err _ _ c.from_residual.ensures.1
    ∙ refuses _ _ _ _ (e.ensures ∙ ap (λ (q : Option Kind). unlike c.args.number q) c.kind_of.ensures) (refuses-some e.field-0.0)

pub returns : goal.returns
unfolding kind_named
returns c =
    c.view_value.ensures ∙ goes 0 _ _ _ (c.in_ok-unlike.ensures ∙ ap (λ (q : Option Kind). unlike c.args.number q) c.kind_of.ensures) refl
