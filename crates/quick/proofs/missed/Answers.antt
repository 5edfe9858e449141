-- `quick::missed` meets its contract: a version of the store at which the walk does not mark the pages of that version. Assumes nothing.
use mathlib.Core.Path.{sym, ◌∙◌}
use native.Mathlib.Omega.{arith}
use borrow.Author.Tests.{not-true}
use Rattle.std.proofs.Common.{leb-true}
use Rattle.reach.proofs.laws.Rules.{six-missed}
use Rattle.quick.proofs.missed.Goals as goal
use Rattle.quick.proofs.missed.Goals.{then-h-v, else-h-v}

pub returns-then-v-last : goal.returns-then-v-last
returns-then-v-last c e =
    let a = c.args in let t = c.if-v-last.true in
    elim c.if-h-v.branch [
      | then-h-v w ↦
          six-missed a.l.least a.s.now a.h c.requires.header a.v w.if-h-v.true
          (omega (arith, leb-true a.v w.last.result (sym w.value-is ∙ t), w.last.ensures))
          (sym c.version_ok.ensures ∙ not-true c.version_ok.result e)
      | else-h-v w ↦ absurd (omega (arith, leb-true a.h.oldest a.v (sym w.value-is ∙ t), w.if-h-v.false))
    ]
