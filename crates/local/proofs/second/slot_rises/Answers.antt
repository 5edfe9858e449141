-- `local::second::slot_rises` meets its contract: the next slot, or none. Assumes nothing.
use Prim.Native.Nat.{◌+◌, ◌*◌}
use borrow.Author.Rules.{rules}
use Rattle.local.specs.Local.{slot_at}
use Rattle.local.proofs.laws.Second.{slot-is}
use Rattle.local.proofs.second.slot_rises.Goals as goal

pub returns-then-n-i : goal.returns-then-n-i
returns-then-n-i c =
    let a = c.args in rw (slot-is 0 a.s.now (512 * a.l.least) (a.i + 1) a.n (slot_at a.l.least a.s.now a.i)) (search rules)

pub returns-else-n-i : goal.returns-else-n-i
returns-else-n-i c =
    let a = c.args in rw (slot-is 0 a.s.now (512 * a.l.least) (a.i + 1) a.n (slot_at a.l.least a.s.now a.i)) (search rules)
