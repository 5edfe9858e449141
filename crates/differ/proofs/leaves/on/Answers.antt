-- `on` meets its contract. Assumes nothing.
use Rattle.differ.proofs.laws.Side.{at-stays, at_ended, at-rises, at-gone}
use mathlib.Core.Logic.{inl, inr}
use mathlib.Core.Path.{◌∙◌}
use native.Mathlib.Omega.{arith}
use Rattle.differ.proofs.leaves.on.Goals as goal

pub returns-then-n-x : goal.returns-then-n-x
returns-then-n-x c =
    let a = c.args in (
      c.requires.1,
      elim c.if-n-x.either [
        | inl h ↦ at-stays a.page.now a.n a.v a.low a.high a.x c.requires.1 a.key h
        | inr h ↦ at_ended a.page.now a.n a.v a.low a.high a.x c.requires.1 a.key h.1
      ],
    )

pub side_from-requires : goal.side_from-requires
side_from-requires c =
    let a = c.args in
    let h = c.if-n-x.false in (
      c.requires.0,
      omega (arith, h.1),
      at-rises a.page.now a.n a.v a.low a.high a.x c.requires.1 a.key h.1 h.0 c.requires.2,
    )

pub returns-else-n-x : goal.returns-else-n-x
returns-else-n-x c =
    let a = c.args in
    let h = c.if-n-x.false in (
      c.side_from.ensures.0,
      c.side_from.ensures.1 ∙ at-gone a.page.now a.n a.v a.low a.high a.x c.requires.1 a.key h.1 h.0 c.requires.2,
    )
