-- `set_one` meets its contract. Assumes nothing.
use Prim.Native.Nat.{ℕ, ◌+◌}
use mathlib.Core.Path.{sym, ap, ◌∙◌, subst}
use mathlib.Core.List.{List}
use Rattle.model.specs.Refusals.{found_in}
use Rattle.plain.specs.Plain.{set_missing}
use Rattle.plain.specs.Turns.{Turned}
use Rattle.plain.proofs.laws.Items.{none-there}
use Rattle.plain.proofs.laws.Turns.{missing-room, missing-set}
use Rattle.plain.proofs.back.set_one.Goals as goal

pub put-requires : goal.put-requires
put-requires c =
    let a = c.args in
    let nothing = none-there c.value_at.result c.value_at.ensures (sym c.is_some.ensures ∙ c.if-is_some.false) in
    let there = sym c.value_at-2.ensures ∙ ap found_in c.in-Some.is in
    missing-room a.items.now a.n a.w a.v a.key c.requires.0 nothing c.in-Some.value there c.requires.1

pub returns-in-Some : goal.returns-in-Some
returns-in-Some c =
    let a = c.args in
    let nothing = none-there c.value_at.result c.value_at.ensures (sym c.is_some.ensures ∙ c.if-is_some.false) in
    let there = sym c.value_at-2.ensures ∙ ap found_in c.in-Some.is in
    let x = c.in-Some.value in
    let room = missing-room a.items.now a.n a.w a.v a.key c.requires.0 nothing x there c.requires.1 in
    subst (λ (ns : List ℕ). Turned (set_missing a.w a.v a.key) a.items.now a.n ns (a.n + 1)) (sym c.put.ensures)
    (missing-set a.items.now a.n a.w a.v a.key c.requires.0 nothing x there room)
