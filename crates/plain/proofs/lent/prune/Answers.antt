-- `lent::prune` meets its contract. Assumes nothing.
use Rattle.plain.specs.Plain.{Plain, prune}
use Rattle.plain.proofs.laws.Lending.{fits, again, few-room}
use Rattle.plain.proofs.Guards as guards
use Rattle.plain.proofs.Again as again
use Rattle.plain.proofs.lent.prune.Goals as goal

pub numbers-requires : goal.numbers-requires
numbers-requires c =
    let a = c.args in
    let s = c.in_ok-s in
    let f = λ (q : Plain). prune q a.version in
    fits a.items.now a.state.now s.s s.ensures c.in_ok-prune.field-0 c.prune.new.items f c.in_ok-prune.ensures
    (few-room a.items.now a.state.now s.s s.ensures f (λ q. guards.prune-few q a.version))

pub returns-clause-again : goal.returns-clause-again
returns-clause-again c =
    let a = c.args in
    let s = c.in_ok-s in
    let f = λ (q : Plain). prune q a.version in
    again a.items.now a.state.now s.s s.ensures c.in_ok-prune.field-0 c.prune.new.items f c.in_ok-prune.ensures
    (few-room a.items.now a.state.now s.s s.ensures f (λ q. guards.prune-few q a.version))
    (λ q h. again.prune-stands q h a.version) c.prune.auto.items c.numbers.result c.numbers.ensures
