-- `put_four` meets its contract. Assumes nothing.
use Rattle.model.proofs.reading.Telling.{write-one}
use Rattle.model.specs.Telling.{deltas}
use Prim.Native.Nat.{suc, ◌+◌, ◌*◌}
use mathlib.Core.Path.{◌≡◌}
use lib.ListN.{length-set}
use native.Mathlib.Omega.{arith}
use Rattle.differ.proofs.telling.put_four.Goals as goal

pub bounds-list-k-2 : goal.bounds-list-k-2
bounds-list-k-2 c = simp length-set (omega (arith, c.requires))

pub bounds-list-k-3 : goal.bounds-list-k-3
bounds-list-k-3 c = simp length-set (omega (arith, c.requires))

pub bounds-list-k-4 : goal.bounds-list-k-4
bounds-list-k-4 c = simp length-set (omega (arith, c.requires))

pub returns : goal.returns
returns c =
    let a = c.args in
    let e : 4 * a.k + 1 ≡ suc (4 * a.k) = omega arith in
    let f : 4 * a.k + 2 ≡ suc (suc (4 * a.k)) = omega arith in
    let g : 4 * a.k + 3 ≡ suc (suc (suc (4 * a.k))) = omega arith in
    rw (e, f, g) (write-one deltas a.list.now a.k a.d)
