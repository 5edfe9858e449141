-- `lookup` meets its contract: by the edition lent. Assumes nothing.
use Prim.Native.Nat.{ℕ}
use mathlib.Core.Path.{◌∙◌}
use Rattle.model.specs.Looked.{Refused}
use Rattle.model.specs.Lent.{lookup_lent}
use Rattle.model.specs.Any.{lookup_any}
use Rattle.store.proofs.laws.Editions.{refused-early, gone-on}
use Rattle.store.proofs.laws.Refused.{looked-err}
use Rattle.calls.proofs.any.lookup.Goals as goal

pub returns-in_err-edition_lent : goal.returns-in_err-edition_lent
unfolding lookup_any
returns-in_err-edition_lent c =
    let a = c.args in let b = c.args.s.now in
    looked-err _ _ c.from_residual.ensures.1
    ∙ refused-early b (λ (n : ℕ). Refused n) (λ (least : ℕ). lookup_lent least b a.key a.v) _ c.in_err-edition_lent.ensures

pub returns : goal.returns
unfolding lookup_any
returns c =
    let a = c.args in let b = c.args.s.now in
    c.lookup.ensures
    ∙ gone-on b (λ (n : ℕ). Refused n) (λ (least : ℕ). lookup_lent least b a.key a.v) c.in_ok-edition_lent.field-0 c.in_ok-edition_lent.ensures
