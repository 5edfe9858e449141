-- `range` meets its contract: by the edition lent. Assumes nothing.
use Prim.Native.Nat.{ℕ}
use mathlib.Core.Path.{◌∙◌}
use Rattle.model.specs.Lent.{Listed, range_lent}
use Rattle.model.specs.Any.{range_any}
use Rattle.store.proofs.laws.Editions.{refused-early, gone-on}
use Rattle.store.proofs.laws.Refused.{listed-err}
use Rattle.calls.proofs.any.range.Goals as goal

pub returns-in_err-edition_lent : goal.returns-in_err-edition_lent
unfolding range_any
returns-in_err-edition_lent c =
    let a = c.args in let b = c.args.s.now in
    listed-err _ c.args.list.now _ c.from_residual.ensures.1
    ∙ refused-early b {A = Listed} (λ (n : ℕ). record { number = n; count = 0; list = a.list.now })
    (λ (least : ℕ). range_lent least b a.low a.high a.v a.list.now) _ c.in_err-edition_lent.ensures

pub returns : goal.returns
unfolding range_any
returns c =
    let a = c.args in let b = c.args.s.now in
    c.range.ensures
    ∙ gone-on b {A = Listed} (λ (n : ℕ). record { number = n; count = 0; list = a.list.now })
    (λ (least : ℕ). range_lent least b a.low a.high a.v a.list.now) c.in_ok-edition_lent.field-0 c.in_ok-edition_lent.ensures
