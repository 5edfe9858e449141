-- `gather::joined` meets its contract: a list and another behind it. Assumes nothing.
use Prim.Native.Nat.{◌+◌, ◌-◌}
use native.Mathlib.Omega.{arith}
use Rattle.gather.specs.Gather.{pairs_in}
use Rattle.gather.proofs.laws.Gather.{lists-over}
use Rattle.gather.proofs.joined.Goals as goal

pub returns : goal.returns
unfolding pairs_in
returns c =
    let a = c.args.a in let b = c.args.b in let za = c.requires.0 in let zb = c.requires.1 in
    rw c.copy_from_slice.ensures.after
    (lists-over a.list b.list a.n 0 b.n (a.n + b.n - a.n) (a.n + b.n) za.size za.fits zb.fits (omega (arith, zb.size))
    (omega arith) (omega arith) c.requires.2)
