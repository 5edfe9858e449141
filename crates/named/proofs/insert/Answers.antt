-- `insert` meets its contract: the layer's refusals, then the store's call. Assumes nothing.
use mathlib.Core.Path.{refl, ap, ◌∙◌}
use Rattle.std.specs.Prelude.{Option}
use Rattle.model.specs.declared.Kind.{Kind}
use Rattle.model.specs.Kinds.{allowed}
use Rattle.model.specs.Named.{insert_named}
use Rattle.store.proofs.laws.Refused.{refuses-some, leaving-err}
use Rattle.named.proofs.laws.Answers.{refuses, goes}
use Rattle.named.proofs.insert.Goals as goal

pub returns-in_err-allowed : goal.returns-in_err-allowed
unfolding insert_named
returns-in_err-allowed c =
    let e = c.in_err-allowed in
    leaving-err _ c.args.s.now _ c.from_residual.ensures.1
    ∙ refuses _ _ _ _ (e.ensures ∙ ap (λ (q : Option Kind). allowed q c.args.value) c.kind_of.ensures) (refuses-some e.field-0.0)

pub returns : goal.returns
unfolding insert_named
returns c =
    c.insert.ensures ∙ goes 0 _ _ _ (c.in_ok-allowed.ensures ∙ ap (λ (q : Option Kind). allowed q c.args.value) c.kind_of.ensures) refl
