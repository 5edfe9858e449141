-- `side_from` meets its contract. Assumes nothing.
use Rattle.differ.proofs.laws.Side.{at_here, at_none}
use mathlib.Core.Path.{◌≡◌}
use native.Mathlib.Omega.{arith}
use Rattle.differ.proofs.leaves.side_from.Goals as goal

pub entry_at-e-requires : goal.entry_at-e-requires
entry_at-e-requires c =
    let g = c.requires.0 in
    (omega (arith, g.long, c.if-place-n.true), g.short)

pub returns-then-place-n : goal.returns-then-place-n
returns-then-place-n c =
    let a = c.args in
    rw c.entry_at-e.ensures
    (at_here a.page.now a.n a.v a.low a.high a.i _ c.next_place-place.ensures c.requires.2
    c.if-place-n.true)

pub returns-else-place-n : goal.returns-else-place-n
returns-else-place-n c =
    let a = c.args in
    let e : c.next_place-place.result ≡ a.n = omega (arith, c.next_place-place.ensures.within, c.if-place-n.false) in
    rw e (at_none a.page.now a.n a.v a.low a.high a.i _ c.next_place-place.ensures c.requires.2 e)
