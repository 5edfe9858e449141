-- `delete` meets its contract. Assumes nothing.
use Prim.Native.Nat.{ℕ, suc, ◌+◌}
use native.Mathlib.Omega.{arith}
use mathlib.Core.Bool.{not}
use mathlib.Core.Path.{◌≡◌, ap, sym, ◌∙◌}
use borrow.Author.Tests.{not-true, not-false}
use borrow.Author.Rules.{rules}
use Rattle.plain.specs.Plain.{value_at}
use Rattle.plain.specs.Items.{plain_of, from}
use Rattle.plain.specs.Sweep.{ended}
use Rattle.plain.proofs.laws.Items.{some-there, none-there}
use Rattle.plain.proofs.laws.Calls.{delete-five, delete-seven, delete-eleven, delete-left}
use Rattle.plain.proofs.delete.Goals as goal

pub returns-then-key-ge-KEYS : goal.returns-then-key-ge-KEYS
returns-then-key-ge-KEYS c = let a = c.args in delete-five (plain_of a.s a.items.now) a.key c.if-key-ge-KEYS.true

pub returns-then-not-s : goal.returns-then-not-s
returns-then-not-s c =
    let a = c.args in
    delete-seven (plain_of a.s a.items.now) a.key (omega arith) (not-true a.s.opened c.if-not-s.true)

pub returns-then-is_none : goal.returns-then-is_none
returns-then-is_none c =
    let a = c.args in
    let is : a.s.current + 1 ≡ suc a.s.current = omega arith in
    let nothing = none-there c.value_at.result c.value_at.ensures (c.is_none.ensures ∙ ap not c.if-is_none.true) in
    delete-eleven (plain_of a.s a.items.now) a.key (omega arith) (not-false a.s.opened c.if-not-s.false)
    (ap (λ (n : ℕ). value_at a.key n (from a.items.now 0 a.s.count)) (sym is) ∙ nothing)

pub returns : goal.returns
returns c =
    let a = c.args in
    let there = some-there c.value_at.result c.value_at.ensures (c.is_none.ensures ∙ ap not c.if-is_none.false) in
    delete-left a.s a.items.now a.key (a.s.current + 1) (omega arith) (not-false a.s.opened c.if-not-s.false) (omega arith)
    there.0 there.1 _ (c.sweep-count.ensures (ended (a.s.current + 1) a.key) (λ e o p. search rules))
