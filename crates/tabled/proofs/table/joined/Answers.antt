-- `table::joined` meets its contract. Assumes nothing.
use mathlib.Core.Logic.{inl, inr}
use mathlib.Core.Path.{sym}
use Rattle.tabled.proofs.laws.Told.{join-none, join-nothing, join-some}
use Rattle.tabled.proofs.table.joined.Goals as goal

pub returns-then-b-eq0 : goal.returns-then-b-eq0
returns-then-b-eq0 c =
    elim c.if-b-eq0.either [
      | inl h ↦ sym (join-none c.args.a c.args.b h)
      | inr h ↦ sym (join-nothing c.args.a c.args.b h.1)
    ]

pub returns-else-b-eq0 : goal.returns-else-b-eq0
returns-else-b-eq0 c = let h = c.if-b-eq0.false in sym (join-some c.args.a c.args.b h.0 h.1)
