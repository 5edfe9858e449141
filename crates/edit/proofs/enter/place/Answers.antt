-- `edit::enter::place` meets its contract: the place in the whole is i and the place in what is left. Assumes nothing.
use mathlib.Core.Path.{sym, ◌∙◌}
use native.Mathlib.Omega.{arith}
use Rattle.edit.proofs.laws.Place.{place_here, place-later, place_none}
use Rattle.edit.proofs.enter.place.Goals as goal

pub returns-then-before_at : goal.returns-then-before_at
returns-then-before_at c =
    let l = c.loop-i in let a = c.args in
    omega (
      arith,
      l.invariant,
      place_here a.page.now a.key a.start l.i a.count (omega arith)
          (sym c.before_at.ensures ∙ c.if-before_at.true),
    )

pub loop-i-preserved : goal.loop-i-preserved
loop-i-preserved c =
    let l = c.loop-i in let a = c.args in
    omega (
      arith,
      l.invariant,
      place-later a.page.now a.key a.start l.i a.count (omega arith)
          (sym c.before_at.ensures ∙ c.if-before_at.false),
    )

pub returns : goal.returns
returns c =
    let l = c.loop-i in let a = c.args in
    omega (arith, l.invariant, place_none a.page.now a.key a.start l.i a.count (omega arith))
