-- `page::live_among` meets its contract: those counted and those from i on are all. Assumes nothing.
use Prim.Native.Nat.{◌+◌, ◌*◌}
use native.Mathlib.Omega.{arith}
use Rattle.model.specs.Layout.{read_entry}
use Rattle.page.proofs.laws.Live.{live-step, live_end, live-most}
use Rattle.page.proofs.live_among.Goals as goal

pub overflow_add-live : goal.overflow_add-live
overflow_add-live c = omega (arith, c.live_at-live.ensures, live-most (read_entry c.args.page.now (128 + 96 * c.loop-i.i)))

pub loop-i-preserved : goal.loop-i-preserved
loop-i-preserved c =
    let l = c.loop-i in let a = c.args in (
      omega (arith, c.live_at-live.ensures, live-most (read_entry a.page.now (128 + 96 * l.i))),
      omega (arith, l.invariant.1, c.live_at-live.ensures, live-step a.page.now l.i a.n (omega arith)),
    )

pub returns : goal.returns
returns c =
    let l = c.loop-i in let a = c.args in
    omega (arith, l.invariant.1, live_end a.page.now l.i a.n (omega arith))
