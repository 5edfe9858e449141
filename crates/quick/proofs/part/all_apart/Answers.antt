use mathlib.Core.Path.{refl, sym, ◌∙◌}
use native.Mathlib.Nat.{sub-zero}
use borrow.Author.Tests.{not-true, not-false}
use borrow.Author.Rules.{rules}
use Rattle.quick.proofs.laws.Part.{apart_from, apart-by, apart-late, apart-ended, apart-end, order-step}
use Rattle.quick.proofs.part.all_apart.Goals as goal
use Rattle.quick.proofs.part.all_apart.Goals.{then-old-e+else-is_some_and, else-old-e}

pub loop-i-init : goal.loop-i-init
loop-i-init c = (rw sub-zero c.requires.1, rw sub-zero refl)

pub returns-then-is_some_and : goal.returns-then-is_some_and
returns-then-is_some_and c =
    let a = c.args in let k = c.loop-i in let e = c.entry_at-e.result in
    let q = apart-by k.last e c.is_some_and.result c.is_some_and.ensures (λ d p. search rules) in
    sym (k.invariant.1 ∙ apart-late a.page.now k.i a.n a.old k.last (rw (← c.entry_at-e.ensures) c.if-old-e.true) c.loop-i-test.true k.invariant.0
    ∙ rw (← c.entry_at-e.ensures, not-true (apart_from k.last e) (sym q ∙ c.if-is_some_and.true)))

pub loop-i-preserved : goal.loop-i-preserved
loop-i-preserved c =
    let a = c.args in let k = c.loop-i in let t = c.loop-i-test.true in let e = c.entry_at-e.result in (
      order-step a.page.now k.i a.n t k.invariant.0,
      k.invariant.1 ∙ elim c.if-old-e.branch [
        | then-old-e+else-is_some_and w ↦
            let q = apart-by k.last e w.is_some_and.result w.is_some_and.ensures (λ d p. search rules) in
            apart-late a.page.now k.i a.n a.old k.last (rw (← c.entry_at-e.ensures) w.if-old-e.true) t k.invariant.0
            ∙ rw (← c.entry_at-e.ensures, not-false (apart_from k.last e) (sym q ∙ w.if-is_some_and.false), w.last-is)
        | else-old-e w ↦
            apart-ended a.page.now k.i a.n a.old k.last (rw (← c.entry_at-e.ensures) w.if-old-e.false) t ∙ rw w.last-is
      ],
    )

pub returns : goal.returns
returns c =
    let a = c.args in let k = c.loop-i in
    sym (k.invariant.1 ∙ apart-end a.page.now k.i a.n a.old k.last c.loop-i-test.false)
