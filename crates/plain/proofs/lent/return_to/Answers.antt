-- `lent::return_to` meets its contract. Assumes nothing.
use Prim.Native.Nat.{◌+◌}
use mathlib.Core.Bool.{true}
use mathlib.Core.Path.{◌≡◌, ◌∙◌, ap}
use Rattle.std.proofs.lemmas.Result.{err_from_is_err_and}
use Rattle.model.specs.Refusals.{list_number_of}
use Rattle.plain.specs.Plain.{Plain, return}
use Rattle.plain.specs.Guard.{state_of, is_lent, read_plain, left_lent, fitted, own_inserts}
use Rattle.plain.proofs.laws.Lending.{gives, fits, again}
use Rattle.plain.proofs.Guards as guards
use Rattle.plain.proofs.Again as again
use Rattle.plain.proofs.lent.return_to.Goals as goal

pub returns-in_err-return_fits-clause-given : goal.returns-in_err-return_fits-clause-given
returns-in_err-return_fits-clause-given c =
    let a = c.args in
    let s = c.in_ok-s in
    let p = read_plain a.items.now a.state.now in
    let no = c.in_err-return_fits in
    let short : (guards.return-lack a.items.now a.state.now s.ensures.lent s.s s.ensures.state a.version ≡ true)
    × (list_number_of no.field-0.0 ≡ 14) = no.ensures in
    let e = err_from_is_err_and c.from_residual-in_err-return_fits.result c.from_residual-in_err-return_fits.ensures.1 in
    rw (e.1, e.2, short.1)
    (guards.own-return-short a.items.now a.state.now s.ensures.lent s.s s.ensures.state a.version short.0
    ∙ guards.guarded-some (is_lent a.items.now a.state.now) p
    (fitted a.items.now ((state_of a.state.now).count + own_inserts p a.version) p (return p a.version)) s.ensures.lent)

pub return_to-requires : goal.return_to-requires
return_to-requires c =
    let a = c.args in
    let s = c.in_ok-s in (
      guards.own_held a.items.now a.state.now s.ensures.lent s.s s.ensures.state,
      guards.own-return-room a.items.now a.state.now s.ensures.lent s.s s.ensures.state a.version c.in_ok-return_fits.ensures,
    )

pub numbers-requires : goal.numbers-requires
numbers-requires c =
    let a = c.args in
    let s = c.in_ok-s in
    let t = c.in_ok-return_to in
    fits a.items.now a.state.now s.s s.ensures t.field-0 c.return_to.new.items (λ (q : Plain). return q a.version) t.ensures
    (guards.own-return-room a.items.now a.state.now s.ensures.lent s.s s.ensures.state a.version c.in_ok-return_fits.ensures)

pub returns-clause-given : goal.returns-clause-given
returns-clause-given c =
    let a = c.args in
    let s = c.in_ok-s in
    let t = c.in_ok-return_to in
    let p = read_plain a.items.now a.state.now in
    ap (left_lent 0 c.return_to.new.items) c.numbers.ensures
    ∙ gives a.items.now a.state.now s.s s.ensures t.field-0 c.return_to.new.items (λ (q : Plain). return q a.version) t.ensures
    (fitted a.items.now ((state_of a.state.now).count + own_inserts p a.version) p (return p a.version))
    (guards.own-return-roomy a.items.now a.state.now s.ensures.lent s.s s.ensures.state a.version c.in_ok-return_fits.ensures)

pub returns-clause-again : goal.returns-clause-again
returns-clause-again c =
    let a = c.args in
    let s = c.in_ok-s in
    let t = c.in_ok-return_to in
    again a.items.now a.state.now s.s s.ensures t.field-0 c.return_to.new.items (λ (q : Plain). return q a.version) t.ensures
    (guards.own-return-room a.items.now a.state.now s.ensures.lent s.s s.ensures.state a.version c.in_ok-return_fits.ensures)
    (λ q h. again.return-stands q h a.version) c.return_to.auto.items c.numbers.result c.numbers.ensures
