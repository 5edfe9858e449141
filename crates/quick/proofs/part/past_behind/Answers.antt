use Prim.Native.Nat.{ℕ, ◌-◌, ◌+◌, ◌*◌, min}
use mathlib.Core.Path.{ap, sym, ◌∙◌}
use native.Mathlib.Omega.{arith}
use Rattle.model.specs.Layout.{read_entries}
use Rattle.spans.specs.Quick.{past_all, past}
use Rattle.spans.proofs.laws.Stretches.{past-all-more}
use Rattle.quick.proofs.laws.Part.{past-step, past_end}
use Rattle.quick.proofs.part.past_behind.Goals as goal

pub returns-then-b-t : goal.returns-then-b-t
returns-then-b-t c =
    let a = c.args in let j = c.loop-k in
    omega (arith, j.invariant, c.if-b-t.true, past-all-more j.t (read_entries a.page.now (128 + 96 * j.k) (a.n - j.k)))

pub loop-k-preserved : goal.loop-k-preserved
loop-k-preserved c =
    let a = c.args in let j = c.loop-k in
    j.invariant ∙ past-step a.page.now j.k a.n j.t c.loop-k-test.true
    ∙ ap (λ (x : ℕ). past_all x (read_entries a.page.now (128 + 96 * (j.k + 1)) (a.n - (j.k + 1))))
    (ap (past j.t) (sym c.entry_at-e.ensures) ∙ sym c.past-t.ensures)

pub returns : goal.returns
returns c =
    let a = c.args in let j = c.loop-k in
    c.min.ensures ∙ ap (min a.b) (sym (j.invariant ∙ past_end a.page.now j.k a.n j.t c.loop-k-test.false))
