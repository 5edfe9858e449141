-- `store::put_slot` meets its contract: the fields are laid one after the other. Assumes nothing.
use Rattle.model.proofs.Edition.{edition}
use Rattle.page.proofs.laws.Editions.{bytes-is}
use Rattle.model.specs.Field.{lay}
use Prim.Native.Nat.{◌*◌}
use mathlib.Core.Path.{◌≡◌}
use native.Mathlib.Omega.{arith}
use Rattle.store.proofs.put_slot.Goals as goal

pub returns : goal.returns
unfolding lay
returns c =
    let a = c.args in
    let e : 8 * a.l.bytes ≡ 512 * a.l.least
    = omega (arith, bytes-is (edition c.args.l)) in
    rw (← e) cc
