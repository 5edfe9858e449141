-- `lent::commit` meets its contract. Assumes nothing.
use mathlib.Core.Path.{refl}
use Rattle.plain.specs.Plain.{Plain, commit}
use Rattle.plain.proofs.laws.Lending.{fits, again, few-room}
use Rattle.plain.proofs.Guards as guards
use Rattle.plain.proofs.Again as again
use Rattle.plain.proofs.lent.commit.Goals as goal

pub numbers-requires : goal.numbers-requires
numbers-requires c =
    let a = c.args in
    let s = c.in_ok-s in
    let f = λ (q : Plain). commit q in
    fits a.items.now a.state.now s.s s.ensures c.in_ok-commit.field-0 a.items.now f c.in_ok-commit.ensures
    (few-room a.items.now a.state.now s.s s.ensures f (λ q. guards.commit-few q))

pub returns-clause-again : goal.returns-clause-again
returns-clause-again c =
    let a = c.args in
    let s = c.in_ok-s in
    let f = λ (q : Plain). commit q in
    again a.items.now a.state.now s.s s.ensures c.in_ok-commit.field-0 a.items.now f c.in_ok-commit.ensures
    (few-room a.items.now a.state.now s.s s.ensures f (λ q. guards.commit-few q))
    (λ q h. again.commit-stands q h) refl c.numbers.result c.numbers.ensures
