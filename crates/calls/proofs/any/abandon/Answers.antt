-- `abandon` meets its contract: by the edition lent. Assumes nothing.
use Prim.Native.Nat.{ℕ}
use mathlib.Core.Path.{◌∙◌}
use Rattle.model.specs.Lent.{leaving, abandon_lent}
use Rattle.model.specs.Any.{abandon_any}
use Rattle.store.proofs.laws.Editions.{refused-early, gone-on}
use Rattle.store.proofs.laws.Refused.{leaving-err}
use Rattle.calls.proofs.any.abandon.Goals as goal

pub returns-in_err-l : goal.returns-in_err-l
unfolding abandon_any
returns-in_err-l c =
    let b = c.args.s.now in
    leaving-err _ c.args.s.now _ c.from_residual.ensures.1
    ∙ refused-early b (λ (n : ℕ). leaving n b) (λ (least : ℕ). abandon_lent least b) _ c.in_err-l.ensures

pub returns : goal.returns
unfolding abandon_any
returns c =
    let b = c.args.s.now in
    c.abandon_in.ensures
    ∙ gone-on b (λ (n : ℕ). leaving n b) (λ (least : ℕ). abandon_lent least b) c.in_ok-l.l c.in_ok-l.ensures
