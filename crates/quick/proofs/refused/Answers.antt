-- `quick::refused` meets its contract: the tests in check's order. Assumes nothing.
use Rattle.model.proofs.Edition.{edition}
use Rattle.local.proofs.laws.Sizes.{sized}
use Rattle.local.specs.Local.{Sized}
use Rattle.model.specs.Layout.{size_of}
use native.Mathlib.Omega.{arith}
use mathlib.Core.Path.{sym, ◌∙◌}
use Rattle.quick.proofs.refused.Goals as goal
use Rattle.quick.proofs.refused.Goals.{Else-not-whole}

-- 6 to 4,096 whole pages
long : (c : Else-not-whole) → let a = c.args in Sized a.l.least a.s.now (size_of a.l.least a.s.now)
long c = sized c.args.l.least (edition c.args.l).four c.args.s.now (edition c.args.l).eight (sym c.whole.ensures ∙ c.if-not-whole.false)

pub named-requires : goal.named-requires
named-requires c = omega (arith, (long (goal.at.named-requires c).Else-not-whole).front, (edition c.args.l).four)

pub of_edition-requires : goal.of_edition-requires
of_edition-requires c =
    let k = long (goal.at.of_edition-requires c).Else-not-whole in
    (omega (arith, k.front, (edition c.args.l).four), omega (arith, k.long))
