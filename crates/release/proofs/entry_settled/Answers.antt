-- `entry_settled` meets its contract. Assumes nothing.
use Prim.Native.Nat.{◌+◌, ◌*◌}
use native.Mathlib.Omega.{arith}
use mathlib.Core.Path.{ap, ◌∙◌}
use Rattle.model.specs.Layout.{read_entry, decode}
use Rattle.release.specs.Settled.{settled}
use Rattle.release.proofs.laws.Opened.{next_low, settled-apart}
use Rattle.release.proofs.laws.Places.{key-low}
use Rattle.release.proofs.entry_settled.Goals as goal

pub overflow_add-c : goal.overflow_add-c
overflow_add-c c = omega (arith, next_low c.requires.0)

pub may_turn-requires : goal.may_turn-requires
may_turn-requires c = let p = c.requires in (p.1, p.2, next_low p.0)

pub returns-then-not-may_turn : goal.returns-then-not-may_turn
returns-then-not-may_turn c =
    let a = c.args in
    let f = c.may_turn.ensures c.if-not-may_turn.true in
    rw c.if-not-may_turn.true (settled-apart c.requires.0 (read_entry a.p.now (128 + 96 * a.i)) f.start f.end)

pub settled-requires : goal.settled-requires
settled-requires c = (c.requires.0, key-low _ _ _ c.entry_at.ensures)

pub returns-else-not-may_turn : goal.returns-else-not-may_turn
returns-else-not-may_turn c =
    let a = c.args in
    c.settled.ensures ∙ ap (settled (decode a.l.least a.s.now)) c.entry_at.ensures
