-- `lent::insert` meets its contract. Assumes nothing.
use Prim.Native.Nat.{◌+◌}
use mathlib.Core.Bool.{true}
use mathlib.Core.Path.{◌≡◌, ◌∙◌, ap}
use Rattle.std.proofs.lemmas.Result.{err_from_is_err_and}
use Rattle.model.specs.Refusals.{list_number_of}
use Rattle.plain.specs.Plain.{Plain, insert}
use Rattle.plain.specs.Guard.{state_of, is_lent, read_plain, left_lent, fitted}
use Rattle.plain.proofs.laws.Lending.{gives, fits, again}
use Rattle.plain.proofs.Guards as guards
use Rattle.plain.proofs.Again as again
use Rattle.plain.proofs.lent.insert.Goals as goal

pub returns-in_err-insert_fits-clause-given : goal.returns-in_err-insert_fits-clause-given
returns-in_err-insert_fits-clause-given c =
    let a = c.args in
    let s = c.in_ok-s in
    let p = read_plain a.items.now a.state.now in
    let no = c.in_err-insert_fits in
    let short : (guards.insert-lack a.items.now a.state.now s.ensures.lent s.s s.ensures.state a.key a.value ≡ true)
    × (list_number_of no.field-0.0 ≡ 14) = no.ensures in
    let e = err_from_is_err_and c.from_residual-in_err-insert_fits.result c.from_residual-in_err-insert_fits.ensures.1 in
    rw (e.1, e.2, short.1)
    (guards.own-insert-short a.items.now a.state.now s.ensures.lent s.s s.ensures.state a.key a.value short.0
    ∙ guards.guarded-some (is_lent a.items.now a.state.now) p
    (fitted a.items.now ((state_of a.state.now).count + 1) p (insert p a.key a.value)) s.ensures.lent)

pub insert-requires : goal.insert-requires
insert-requires c =
    let a = c.args in
    let s = c.in_ok-s in (
      guards.own_held a.items.now a.state.now s.ensures.lent s.s s.ensures.state,
      guards.own-insert-room a.items.now a.state.now s.ensures.lent s.s s.ensures.state a.key a.value c.in_ok-insert_fits.ensures,
    )

pub numbers-requires : goal.numbers-requires
numbers-requires c =
    let a = c.args in
    let s = c.in_ok-s in
    let t = c.in_ok-insert in
    fits a.items.now a.state.now s.s s.ensures t.field-0 c.insert.new.items (λ (q : Plain). insert q a.key a.value) t.ensures
    (guards.own-insert-room a.items.now a.state.now s.ensures.lent s.s s.ensures.state a.key a.value c.in_ok-insert_fits.ensures)

pub returns-clause-given : goal.returns-clause-given
returns-clause-given c =
    let a = c.args in
    let s = c.in_ok-s in
    let t = c.in_ok-insert in
    let p = read_plain a.items.now a.state.now in
    ap (left_lent 0 c.insert.new.items) c.numbers.ensures
    ∙ gives a.items.now a.state.now s.s s.ensures t.field-0 c.insert.new.items (λ (q : Plain). insert q a.key a.value) t.ensures
    (fitted a.items.now ((state_of a.state.now).count + 1) p (insert p a.key a.value))
    (guards.own-insert-roomy a.items.now a.state.now s.ensures.lent s.s s.ensures.state a.key a.value c.in_ok-insert_fits.ensures)

pub returns-clause-again : goal.returns-clause-again
returns-clause-again c =
    let a = c.args in
    let s = c.in_ok-s in
    let t = c.in_ok-insert in
    again a.items.now a.state.now s.s s.ensures t.field-0 c.insert.new.items (λ (q : Plain). insert q a.key a.value) t.ensures
    (guards.own-insert-room a.items.now a.state.now s.ensures.lent s.s s.ensures.state a.key a.value c.in_ok-insert_fits.ensures)
    (λ q h. again.insert-stands q h a.key a.value) c.insert.auto.items c.numbers.result c.numbers.ensures
