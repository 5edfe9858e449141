-- `end_other` meets its contract. Assumes nothing.
use mathlib.Core.Path.{sym, ◌∙◌}
use Rattle.plain.specs.Sweep.{ended}
use Rattle.plain.proofs.laws.Items.{same-found}
use Rattle.plain.proofs.laws.Turns.{other-ended}
use borrow.Author.Rules.{rules}
use Rattle.plain.proofs.back.end_other.Goals as goal

pub returns : goal.returns
returns c =
    let a = c.args in
    let same = same-found c.value_at-a.result c.value_at-b.result c.value_at-a.ensures c.value_at-b.ensures in
    other-ended a.items.now a.n a.w a.v a.key c.requires (sym same ∙ (sym c.eq.ensures ∙ c.if-eq.false)) _ _
    c.sweep.auto.items (c.sweep.ensures (ended a.w a.key) (λ e o p. search rules))
