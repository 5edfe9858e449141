-- `parts::count_free` meets its contract: those counted and the free pages from page i on are all. Assumes nothing.
use mathlib.Core.Path.{◌≡◌, ◌∙◌, ap}
use native.Mathlib.Omega.{arith}
use lib.Dec.{eqb}
use lib.ListN.{length}
use Rattle.std.specs.Int.{from_bool}
use Rattle.model.specs.Store.{page}
use Rattle.parts.specs.Kept.{pages_of}
use Rattle.gather.proofs.laws.Kept.{one-most}
use Rattle.parts.proofs.laws.Free.{free_all, free-step, free-none}
use Rattle.parts.proofs.free.count_free.Goals as goal

pub loop-i-preserved : goal.loop-i-preserved
loop-i-preserved c =
    let ps = pages_of c.args.l c.args.s.now in
    let b = eqb (page ps c.loop-i.i).level 0 in
    let n : c.from-n.result ≡ from_bool b = c.from-n.ensures ∙ rw c.level_of.ensures in
    (omega (arith, n, one-most b), omega (arith, c.loop-i.invariant.1, n, free-step ps c.loop-i.i (omega arith)))

pub returns : goal.returns
returns c =
    let ps = pages_of c.args.l c.args.s.now in
    omega (arith, c.loop-i.invariant.1, ap length (free_all ps), ap length (free-none ps c.loop-i.i (omega arith)))
