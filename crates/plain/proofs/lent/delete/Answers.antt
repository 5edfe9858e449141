-- `lent::delete` meets its contract. Assumes nothing.
use Rattle.plain.specs.Plain.{Plain, delete}
use Rattle.plain.proofs.laws.Lending.{fits, again, few-room}
use Rattle.plain.proofs.Guards as guards
use Rattle.plain.proofs.Again as again
use Rattle.plain.proofs.lent.delete.Goals as goal

pub numbers-requires : goal.numbers-requires
numbers-requires c =
    let a = c.args in
    let s = c.in_ok-s in
    let f = λ (q : Plain). delete q a.key in
    fits a.items.now a.state.now s.s s.ensures c.in_ok-delete.field-0 c.delete.new.items f c.in_ok-delete.ensures
    (few-room a.items.now a.state.now s.s s.ensures f (λ q. guards.delete-few q a.key))

pub returns-clause-again : goal.returns-clause-again
returns-clause-again c =
    let a = c.args in
    let s = c.in_ok-s in
    let f = λ (q : Plain). delete q a.key in
    again a.items.now a.state.now s.s s.ensures c.in_ok-delete.field-0 c.delete.new.items f c.in_ok-delete.ensures
    (few-room a.items.now a.state.now s.s s.ensures f (λ q. guards.delete-few q a.key))
    (λ q h. again.delete-stands q h a.key) c.delete.auto.items c.numbers.result c.numbers.ensures
