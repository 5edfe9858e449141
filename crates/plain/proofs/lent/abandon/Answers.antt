-- `lent::abandon` meets its contract. Assumes nothing.
use Rattle.plain.specs.Plain.{Plain, abandon}
use Rattle.plain.proofs.laws.Lending.{fits, again, few-room}
use Rattle.plain.proofs.Guards as guards
use Rattle.plain.proofs.Again as again
use Rattle.plain.proofs.lent.abandon.Goals as goal

pub numbers-requires : goal.numbers-requires
numbers-requires c =
    let a = c.args in
    let s = c.in_ok-s in
    let f = λ (q : Plain). abandon q in
    fits a.items.now a.state.now s.s s.ensures c.in_ok-abandon.field-0 c.abandon.new.items f c.in_ok-abandon.ensures
    (few-room a.items.now a.state.now s.s s.ensures f (λ q. guards.abandon-few q))

pub returns-clause-again : goal.returns-clause-again
returns-clause-again c =
    let a = c.args in
    let s = c.in_ok-s in
    let f = λ (q : Plain). abandon q in
    again a.items.now a.state.now s.s s.ensures c.in_ok-abandon.field-0 c.abandon.new.items f c.in_ok-abandon.ensures
    (few-room a.items.now a.state.now s.s s.ensures f (λ q. guards.abandon-few q))
    (λ q h. again.abandon-stands q h) c.abandon.auto.items c.numbers.result c.numbers.ensures
