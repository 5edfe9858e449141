-- `may_move` meets its contract. Assumes nothing.
use Rattle.model.proofs.Edition.{edition}
use native.Mathlib.Omega.{arith}
use borrow.Author.Tests.{ltb-false}
use Rattle.turn.proofs.laws.Ended.{past-read}
use Rattle.turn.proofs.laws.Whole.{low_small, ended-before, ended-else}
use Rattle.turn.proofs.may_move.Goals as goal

pub field-x-requires : goal.field-x-requires
field-x-requires c = let p = c.requires in (omega (arith, p.0.size, (edition c.args.l).four), omega arith, omega (arith, p.0.size, (edition c.args.l).eight))

pub returns-else-low-x : goal.returns-else-low-x
returns-else-low-x c =
    λ h.
    let a = c.args in
    let (g, f) = ended-before a.page.now a.w a.l.least c.field-x.result c.low_end-low.result c.field-x.ensures c.low_end-low.ensures
    c.if-low-x.false in
    past-read a.l.least a.w a.page.now g f c.requires.2

pub overflow_add-low : goal.overflow_add-low
overflow_add-low c = let a = c.args in omega (arith, c.low_end-low.ensures, low_small a.l.least a.w)

pub returns-then-x-low : goal.returns-then-x-low
returns-then-x-low c = λ h. absurd (omega (arith, ltb-false _ _ h))

pub touched-requires : goal.touched-requires
touched-requires c =
    let a = c.args in (
      c.requires.0,
      c.requires.1,
      ended-else a.page.now a.w a.l.least c.field-x.result c.low_end-low.result c.field-x.ensures c.low_end-low.ensures
          c.if-x-low.false,
    )

pub returns-else-x-low : goal.returns-else-x-low
returns-else-x-low c = c.touched.ensures
