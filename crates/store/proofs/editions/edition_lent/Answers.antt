-- `edition_lent` meets its contract: the tests in their order. Assumes nothing.
use mathlib.Core.Path.{sym, ◌∙◌}
use native.Mathlib.Omega.{arith}
use Rattle.store.proofs.laws.Editions.{lent-few, lent_other, lent-first, lent-second, lent-neither}
use Rattle.store.proofs.editions.edition_lent.Goals as goal

pub returns-then-s-lt5 : goal.returns-then-s-lt5
returns-then-s-lt5 c = lent-few _ c.if-s-lt5.true

pub returns-then-not-named : goal.returns-then-not-named
returns-then-not-named c = lent_other _ c.if-s-lt5.false (sym c.named.ensures ∙ c.if-not-named.true)

pub returns-in-1 : goal.returns-in-1
returns-in-1 c = rw c.edition_one.ensures.one (lent-first _ c.if-s-lt5.false (sym c.named.ensures ∙ c.if-not-named.false) c.in-1.is)

pub returns-in-2 : goal.returns-in-2
returns-in-2 c = rw c.edition_two.ensures.two (lent-second _ c.if-s-lt5.false (sym c.named.ensures ∙ c.if-not-named.false) c.in-2.is)

pub returns-in_default : goal.returns-in_default
returns-in_default c =
    lent-neither _ c.if-s-lt5.false (sym c.named.ensures ∙ c.if-not-named.false) (c.type_inv.s 4).fits (omega arith) (omega arith)
