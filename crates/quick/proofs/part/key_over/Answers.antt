use Prim.Native.Nat.{ℕ, ◌-◌, ◌+◌, ◌*◌}
use mathlib.Core.Path.{◌≡◌, refl, ap, sym, ◌∙◌}
use native.Mathlib.Omega.{arith}
use native.Mathlib.Nat.{sub-zero}
use lib.Dec.{leb, eqb}
use borrow.Author.Tests.{le-leb, eq-eqb, ne_eqb}
use Rattle.model.specs.Basic.{those, pick}
use Rattle.model.specs.declared.Entry.{Entry}
use Rattle.model.specs.Layout.{read_entries}
use Rattle.spans.specs.Quick.{past_all, past}
use Rattle.spans.proofs.laws.Stretches.{past-all-more}
use Rattle.quick.proofs.laws.Part.{past-those-step, past-those-end}
use Rattle.quick.proofs.part.key_over.Goals as goal
use Rattle.quick.proofs.part.key_over.Goals.{then-e-k, else-e-k}

pub loop-i-init : goal.loop-i-init
loop-i-init c = rw sub-zero refl

pub returns-then-b-t : goal.returns-then-b-t
returns-then-b-t c =
    let a = c.args in let j = c.loop-i in
    let x = past_all a.a (those (λ (e : Entry). eqb e.key a.k) (read_entries a.page.now 128 a.n)) in
    sym (le-leb a.b x
    (omega (
      arith,
      j.invariant,
      c.if-b-t.true,
      past-all-more j.t
          (those (λ (e : Entry). eqb e.key a.k) (read_entries a.page.now (128 + 96 * j.i) (a.n - j.i))),
    )))

pub loop-i-preserved : goal.loop-i-preserved
loop-i-preserved c =
    let a = c.args in let j = c.loop-i in let e = c.entry_at-e.result in
    let q : pick (eqb e.key a.k) (past j.t e) j.t ≡ c.if-e-k.t = elim c.if-e-k.branch [
      | then-e-k w ↦ rw (eq-eqb e.key a.k w.if-e-k.true) (sym (w.t-is ∙ w.past-t.ensures))
      | else-e-k w ↦ rw (ne_eqb e.key a.k w.if-e-k.false) (sym w.t-is)
    ] in
    j.invariant ∙ past-those-step a.page.now j.i a.n (λ (e : Entry). eqb e.key a.k) j.t c.loop-i-test.true
    ∙ ap (λ (x : ℕ). past_all x
    (those (λ (e : Entry). eqb e.key a.k) (read_entries a.page.now (128 + 96 * (j.i + 1)) (a.n - (j.i + 1)))))
    (ap (λ (e : Entry). pick (eqb e.key a.k) (past j.t e) j.t) (sym c.entry_at-e.ensures) ∙ q)

pub returns : goal.returns
returns c =
    let a = c.args in let j = c.loop-i in
    ap (leb a.b)
    (sym (j.invariant ∙ past-those-end a.page.now j.i a.n (λ (e : Entry). eqb e.key a.k) j.t c.loop-i-test.false))
