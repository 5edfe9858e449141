-- `return_to` meets its contract. Assumes nothing.
use Prim.Native.Nat.{◌+◌}
use native.Mathlib.Omega.{arith}
use mathlib.Core.Path.{sym, ◌∙◌}
use borrow.Author.Tests.{not-true, not-false}
use Rattle.plain.specs.Items.{plain_of}
use Rattle.plain.proofs.laws.Calls.{return-six, return-seven}
use Rattle.plain.proofs.laws.Turns.{return-room, return-left}
use Rattle.plain.proofs.return_to.Goals as goal

pub returns-then-uncommitted : goal.returns-then-uncommitted
returns-then-uncommitted c =
    let a = c.args in return-six (plain_of a.s a.items.now) a.v (sym c.uncommitted.ensures ∙ c.if-uncommitted.true)

pub returns-then-not-s : goal.returns-then-not-s
returns-then-not-s c =
    let a = c.args in
    return-seven (plain_of a.s a.items.now) a.v (sym c.uncommitted.ensures ∙ c.if-uncommitted.false)
    (not-true a.s.opened c.if-not-s.true)

pub set_missing-count-requires : goal.set_missing-count-requires
set_missing-count-requires c =
    let a = c.args in
    let h = sym c.uncommitted.ensures ∙ c.if-uncommitted.false in
    let t = c.end_others-n.ensures in (
      t.lent,
      return-room a.s a.items.now a.v (a.s.current + 1) (omega arith) h (not-false a.s.opened c.if-not-s.false) _ _ t
          c.requires.1,
    )

pub returns : goal.returns
returns c =
    let a = c.args in
    let h = sym c.uncommitted.ensures ∙ c.if-uncommitted.false in
    return-left a.s a.items.now a.v (a.s.current + 1) (omega arith) h (not-false a.s.opened c.if-not-s.false) _ _
    c.end_others-n.ensures _ _ c.set_missing-count.ensures
