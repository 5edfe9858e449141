-- `lookup` meets its contract. Assumes nothing.
use native.Mathlib.Omega.{arith}
use mathlib.Core.Path.{ap, sym, ◌∙◌}
use Rattle.model.specs.Calls.{looked_at}
use Rattle.plain.specs.Items.{plain_of}
use Rattle.plain.proofs.laws.Calls.{lookup-five, lookup-six, lookup-done}
use Rattle.plain.proofs.lookup.Goals as goal

pub returns-then-key-ge-KEYS : goal.returns-then-key-ge-KEYS
returns-then-key-ge-KEYS c = let a = c.args in lookup-five (plain_of a.s a.items.now) a.key a.v c.if-key-ge-KEYS.true

pub returns-then-unreadable : goal.returns-then-unreadable
returns-then-unreadable c =
    let a = c.args in
    lookup-six (plain_of a.s a.items.now) a.key a.v (omega arith) (sym c.unreadable.ensures ∙ c.if-unreadable.true)

pub returns : goal.returns
returns c =
    let a = c.args in
    ap looked_at c.value_at.ensures
    ∙ lookup-done (plain_of a.s a.items.now) a.key a.v (omega arith) (sym c.unreadable.ensures ∙ c.if-unreadable.false)
