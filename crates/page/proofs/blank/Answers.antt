-- `page::blank` meets its contract: after each turn one entry more is unused. Assumes nothing.
use mathlib.Core.Path.{◌≡◌, ◌∙◌}
use native.Mathlib.Omega.{arith}
use Rattle.page.proofs.laws.Stage.{blanked-more, blanked-none}
use Rattle.page.proofs.blank.Goals as goal

pub loop-k-init : goal.loop-k-init
loop-k-init c = blanked-none c.args.page.now c.args.j

pub loop-k-preserved : goal.loop-k-preserved
loop-k-preserved c =
    c.put_entry.ensures
    ∙ rw c.loop-k.invariant (blanked-more c.args.page.now c.args.j c.loop-k.k (omega arith))

pub returns : goal.returns
returns c =
    let e : c.loop-k.k ≡ c.args.n = omega arith in
    rw e at c.loop-k.invariant
