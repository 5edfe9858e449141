-- `local::pages::zero_from` meets its contract: what is left to test answers as the whole. Assumes nothing.
use Prim.Native.Nat.{ℕ}
use mathlib.Core.Path.{ap, sym, ◌∙◌}
use lib.Dec.{eqb}
use Rattle.local.proofs.laws.Pages.{zero_more, zero-not}
use Rattle.local.proofs.pages.zero_from.Goals as goal

pub returns-then-field-ne0 : goal.returns-then-field-ne0
returns-then-field-ne0 c =
    let l = c.loop-k in let a = c.args in
    sym (l.invariant.1 ∙ zero-not a.s.now l.k a.b 32 c.loop-k-test.true
    (λ z. c.if-field-ne0.true (c.field.ensures ∙ z)))

pub loop-k-preserved : goal.loop-k-preserved
loop-k-preserved c =
    let l = c.loop-k in let a = c.args in (
      c.loop-k-test.true,
      l.invariant.1 ∙ zero_more a.s.now l.k a.b 32 c.loop-k-test.true
          (sym c.field.ensures ∙ c.if-field-ne0.false),
    )

pub returns : goal.returns
returns c = ap (λ (x : ℕ). eqb x 0) c.field-2.ensures ∙ sym c.loop-k.invariant.1
