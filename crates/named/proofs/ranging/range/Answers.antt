-- `range` meets its contract: by the edition lent. Assumes nothing.
use Prim.Native.Nat.{ℕ}
use mathlib.Core.Path.{◌∙◌}
use Rattle.model.specs.Lent.{Listed}
use Rattle.model.specs.Named.{range_named_by, range_named}
use Rattle.store.proofs.laws.Editions.{refused-early, gone-on}
use Rattle.store.proofs.laws.Refused.{listed-err}
use Rattle.named.proofs.ranging.range.Goals as goal

pub returns-in_err-l : goal.returns-in_err-l
unfolding range_named
returns-in_err-l c =
    let a = c.args in let b = a.s.now in
    listed-err _ a.list.now _ c.from_residual.ensures.1
    ∙ refused-early b {A = Listed} (λ (n : ℕ). record { number = n; count = 0; list = a.list.now })
    (λ (least : ℕ). range_named_by least a.table.now b a.low a.high a.v a.list.now) _ c.in_err-l.ensures

pub returns : goal.returns
unfolding range_named
returns c =
    let a = c.args in let b = a.s.now in
    c.range_in.ensures
    ∙ gone-on b {A = Listed} (λ (n : ℕ). record { number = n; count = 0; list = a.list.now })
    (λ (least : ℕ). range_named_by least a.table.now b a.low a.high a.v a.list.now) c.in_ok-l.l c.in_ok-l.ensures
