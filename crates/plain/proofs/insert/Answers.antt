-- `insert` meets its contract. Assumes nothing.
use Prim.Native.Nat.{ℕ, suc, ◌+◌}
use native.Mathlib.Omega.{arith}
use mathlib.Core.Path.{◌≡◌, ap, sym, ◌∙◌}
use mathlib.Core.List.{List}
use borrow.Author.Tests.{not-true, not-false}
use Rattle.plain.specs.Plain.{value_at}
use Rattle.plain.specs.Items.{plain_of, from}
use Rattle.plain.proofs.laws.Items.{some-there, none-there}
use Rattle.plain.proofs.laws.Calls.{given, insert-five, insert-seven, insert-ten, insert-room, insert-left}
use Rattle.plain.proofs.insert.Goals as goal

pub returns-then-key-ge-BENCH : goal.returns-then-key-ge-BENCH
returns-then-key-ge-BENCH c = let a = c.args in insert-five (plain_of a.s a.items.now) a.key a.value c.if-key-ge-BENCH.true

pub returns-then-not-s : goal.returns-then-not-s
returns-then-not-s c =
    let a = c.args in
    insert-seven (plain_of a.s a.items.now) a.key a.value (omega arith) (not-true a.s.opened c.if-not-s.true)

pub returns-then-is_some : goal.returns-then-is_some
returns-then-is_some c =
    let a = c.args in
    let is : a.s.current + 1 ≡ suc a.s.current = omega arith in
    let there = some-there c.value_at.result c.value_at.ensures (sym c.is_some.ensures ∙ c.if-is_some.true) in
    insert-ten (plain_of a.s a.items.now) a.key a.value (omega arith) (not-false a.s.opened c.if-not-s.false) there.0
    (ap (λ (n : ℕ). value_at a.key n (from a.items.now 0 a.s.count)) (sym is) ∙ there.1)

pub put-requires : goal.put-requires
put-requires c =
    let a = c.args in
    let nothing = none-there c.value_at.result c.value_at.ensures (sym c.is_some.ensures ∙ c.if-is_some.false) in
    insert-room a.s a.items.now a.key (a.s.current + 1) (omega arith) (not-false a.s.opened c.if-not-s.false)
    a.value (omega arith) nothing c.requires.1

pub returns : goal.returns
returns c =
    let a = c.args in
    let nothing = none-there c.value_at.result c.value_at.ensures (sym c.is_some.ensures ∙ c.if-is_some.false) in
    let o = not-false a.s.opened c.if-not-s.false in
    let is : a.s.current + 1 ≡ suc a.s.current = omega arith in
    let room = insert-room a.s a.items.now a.key (a.s.current + 1) is o a.value (omega arith) nothing c.requires.1 in
    ap (λ (ns : List ℕ). given a.s a.s.opened (from ns 0 (a.s.count + 1))) c.put.ensures
    ∙ insert-left a.s a.items.now a.key (a.s.current + 1) is o a.value (omega arith) nothing room
