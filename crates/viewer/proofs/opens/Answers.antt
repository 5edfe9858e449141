-- `opens` meets its contract: by the edition lent. Assumes nothing.
use Prim.Native.Nat.{ℕ}
use mathlib.Core.Path.{◌∙◌}
use Rattle.model.specs.Named.{viewed_by, viewed}
use Rattle.store.proofs.laws.Editions.{refused-early, gone-on}
use Rattle.store.proofs.laws.Refused.{number-err}
use Rattle.viewer.proofs.laws.Opens.{viewed-is}
use Rattle.viewer.proofs.opens.Goals as goal

pub returns-in_err-l : goal.returns-in_err-l
unfolding viewed
returns-in_err-l c =
    let a = c.args in
    number-err _ _ c.from_residual.ensures.1
    ∙ refused-early a.store.now (λ (n : ℕ). n) (λ (least : ℕ). viewed_by least a.store.now a.version) _ c.in_err-l.ensures

pub returns : goal.returns
unfolding viewed
returns c =
    let a = c.args in
    c.guard.ensures ∙ viewed-is _ a.store.now a.version
    ∙ gone-on a.store.now (λ (n : ℕ). n) (λ (least : ℕ). viewed_by least a.store.now a.version) c.in_ok-l.l c.in_ok-l.ensures
