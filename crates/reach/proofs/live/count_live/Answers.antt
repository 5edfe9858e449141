-- `reach::live::count_live` meets its contract: those counted and those from k on are all. Assumes nothing.
use mathlib.Core.Path.{ap}
use lib.ListN.{length}
use native.Mathlib.Omega.{arith}
use Rattle.reach.proofs.laws.Live.{pairs_end}
use Rattle.reach.proofs.live.count_live.Goals as goal

pub loop-k-init : goal.loop-k-init
loop-k-init c = let e = c.next_live-k.ensures in (e.high, omega arith, omega (arith, ap length e.same), e.live)

pub loop-k-preserved : goal.loop-k-preserved
loop-k-preserved c =
    let l = c.loop-k in let e = c.next_live-k-in-loop-k.ensures in (
      e.high,
      omega (arith, e.low, l.invariant.1),
      omega (arith, l.invariant.2, ap length e.same, ap length (l.invariant.3 c.loop-k-test.true)),
      e.live,
    )

pub returns : goal.returns
returns c =
    let a = c.args in let l = c.loop-k in
    omega (arith, l.invariant.2, ap length (pairs_end a.page.now a.v l.k a.n c.loop-k-test.false))
