-- `prune` meets its contract. Assumes nothing.
use mathlib.Core.Path.{sym, ◌∙◌}
use borrow.Author.Rules.{rules}
use Rattle.plain.specs.Items.{plain_of}
use Rattle.plain.specs.Sweep.{outliving}
use Rattle.plain.proofs.laws.Calls.{prune-three, prune-six, prune-eight, prune-left}
use Rattle.plain.proofs.prune.Goals as goal

pub returns-then-s-eq1 : goal.returns-then-s-eq1
returns-then-s-eq1 c = let a = c.args in prune-three (plain_of a.s a.items.now) a.v c.if-s-eq1.true

pub returns-then-uncommitted : goal.returns-then-uncommitted
returns-then-uncommitted c =
    let a = c.args in
    prune-six (plain_of a.s a.items.now) a.v c.if-s-eq1.false (sym c.uncommitted.ensures ∙ c.if-uncommitted.true)

pub returns-then-s : goal.returns-then-s
returns-then-s c =
    let a = c.args in
    prune-eight (plain_of a.s a.items.now) a.v c.if-s-eq1.false (sym c.uncommitted.ensures ∙ c.if-uncommitted.false) c.if-s.true

pub returns : goal.returns
returns c =
    let a = c.args in
    prune-left a.s a.items.now a.v c.if-s-eq1.false (sym c.uncommitted.ensures ∙ c.if-uncommitted.false) c.if-s.false _
    (c.sweep-count.ensures (outliving a.v) (λ e o p. search rules))
