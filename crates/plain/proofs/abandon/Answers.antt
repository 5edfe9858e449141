-- `abandon` meets its contract. Assumes nothing.
use Prim.Native.Nat.{◌+◌}
use native.Mathlib.Omega.{arith}
use borrow.Author.Tests.{not-true, not-false}
use borrow.Author.Rules.{rules}
use Rattle.plain.specs.Items.{plain_of}
use Rattle.plain.specs.Sweep.{undone}
use Rattle.plain.proofs.laws.Calls.{abandon-seven, abandon-left}
use Rattle.plain.proofs.abandon.Goals as goal

pub returns-then-not-s : goal.returns-then-not-s
returns-then-not-s c = let a = c.args in abandon-seven (plain_of a.s a.items.now) (not-true a.s.opened c.if-not-s.true)

pub returns : goal.returns
returns c =
    let a = c.args in
    abandon-left a.s a.items.now 0 (a.s.current + 1) (omega arith) (not-false a.s.opened c.if-not-s.false) _
    (c.sweep-count.ensures (undone (a.s.current + 1)) (λ e o p. search rules))
