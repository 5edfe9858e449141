-- `store::slot` meets its contract: the fields are read one by one. Assumes nothing.
use Rattle.model.proofs.Edition.{edition}
use Rattle.page.proofs.laws.Editions.{bytes-is}
use Rattle.model.specs.Layout.{read_slot}
use Prim.Native.Nat.{◌*◌}
use mathlib.Core.Path.{◌≡◌}
use native.Mathlib.Omega.{arith}
use Rattle.store.proofs.slot.Goals as goal

pub returns : goal.returns
unfolding read_slot
returns c =
    let a = c.args in
    let e : 8 * a.l.bytes ≡ 512 * a.l.least = omega (arith, bytes-is (edition c.args.l)) in
    rw (← e) cc
