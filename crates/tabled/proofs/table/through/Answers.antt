-- `table::through` meets its contract. Assumes nothing.
use Prim.Native.Nat.{pred}
use mathlib.Core.Logic.{inl, inr}
use mathlib.Core.Path.{sym, ◌∙◌}
use borrow.Author.Tests.{le-leb, lt-leb}
use Rattle.tabled.proofs.laws.Table.{turn-not, turn-so}
use Rattle.tabled.proofs.table.through.Goals as goal

pub returns-then-e-q : goal.returns-then-e-q
returns-then-e-q c =
    let a = c.args in
    c.down.ensures
    ∙ sym (turn-so a.l.least a.s.now a.q.version a.q.low a.q.high (pred a.level) a.e
    (rw (sym c.alive_at.ensures ∙ c.if-alive_at.true, le-leb a.e.key a.q.high c.if-e-q.true)))

pub returns-else-alive_at : goal.returns-else-alive_at
returns-else-alive_at c =
    let a = c.args in
    sym (turn-not a.l.least a.s.now a.q.version a.q.low a.q.high (pred a.level) a.e
    (elim c.else-alive_at.either [
      | inl h ↦ rw (sym c.alive_at.ensures ∙ h.0, lt-leb a.e.key a.q.high h.1)
      | inr h ↦ rw (sym c.alive_at.ensures ∙ h)
    ]))
