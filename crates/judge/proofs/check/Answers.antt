-- `judge::check` meets its contract: by the edition lent. Assumes nothing.
use Prim.Native.Nat.{ℕ}
use mathlib.Core.Path.{◌∙◌}
use Rattle.std.proofs.lemmas.Result.{err_from_is_err_and}
use Rattle.model.specs.Judged.{verdict, judged}
use Rattle.model.specs.Any.{judged_any}
use Rattle.store.proofs.laws.Editions.{refused-early, gone-on}
use Rattle.judge.proofs.check.Goals as goal

pub returns-in_err-l : goal.returns-in_err-l
unfolding judged_any
returns-in_err-l c =
    let b = c.args.s.now in let p = err_from_is_err_and c.from_residual.result c.from_residual.ensures.1 in
    rw (p.1, p.2)
    (refused-early b (λ (n : ℕ). verdict n 0) (λ (least : ℕ). judged least b) c.in_err-l.field-0.0 c.in_err-l.ensures)

pub returns : goal.returns
unfolding judged_any
returns c =
    let b = c.args.s.now in
    c.judge_in.ensures ∙ gone-on b (λ (n : ℕ). verdict n 0) (λ (least : ℕ). judged least b) c.in_ok-l.l c.in_ok-l.ensures
