-- `state` meets its contract: by the edition lent. Assumes nothing.
use Prim.Native.Nat.{ℕ}
use mathlib.Core.Path.{◌∙◌}
use Rattle.model.specs.State.{State}
use Rattle.model.specs.State.{untold}
use Rattle.model.specs.Lent.{state_lent}
use Rattle.model.specs.Any.{state_any}
use Rattle.store.proofs.laws.Editions.{refused-early, gone-on}
use Rattle.store.proofs.laws.Refused.{state-err}
use Rattle.calls.proofs.any.state.Goals as goal

pub returns-in_err-edition_lent : goal.returns-in_err-edition_lent
unfolding state_any
returns-in_err-edition_lent c =
    let b = c.args.s.now in
    state-err _ _ c.from_residual.ensures.1
    ∙ refused-early b {A = State} untold (λ (least : ℕ). state_lent least b) _ c.in_err-edition_lent.ensures

pub returns : goal.returns
unfolding state_any
returns c =
    let b = c.args.s.now in
    c.state_in.ensures
    ∙ gone-on b {A = State} untold (λ (least : ℕ). state_lent least b) c.in_ok-edition_lent.field-0 c.in_ok-edition_lent.ensures
