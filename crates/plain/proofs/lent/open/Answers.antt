-- `lent::open` meets its contract. Assumes nothing.
use mathlib.Core.List.{[]}
use Rattle.std.specs.Prelude.{Ok}
use Rattle.plain.specs.Calls.{Opens}
use Rattle.plain.proofs.Guards as guards
use Rattle.plain.proofs.Again as again
use Rattle.plain.proofs.lent.open.Goals as goal

pub numbers-requires : goal.numbers-requires
numbers-requires c =
    let s = c.in_ok-s in
    let t = c.in_ok-open in
    let does : Opens s.s (Ok t.field-0) = t.ensures in
    guards.open-fits s.s 0 t.field-0 (does []) s.ensures.small

pub returns-clause-again : goal.returns-clause-again
returns-clause-again c =
    let s = c.in_ok-s in
    let t = c.in_ok-open in
    let does : Opens s.s (Ok t.field-0) = t.ensures in
    again.state-again c.args.state.now s.s s.ensures.state 0 t.field-0 (does []) c.numbers.result c.numbers.ensures
