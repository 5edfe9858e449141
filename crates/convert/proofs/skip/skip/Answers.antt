-- `skip` meets its contract. Assumes nothing.
use native.Mathlib.Omega.{arith}
use Rattle.convert.proofs.laws.Skip.{source-low, skipped}
use Rattle.convert.proofs.skip.skip.Goals as goal

pub overflow_add-c : goal.overflow_add-c
overflow_add-c c = let p = c.requires in omega (arith, p.1, source-low p.0)

pub next_change-w-requires : goal.next_change-w-requires
next_change-w-requires c = let p = c.requires in (p.0.source, omega (arith, p.2))

pub overflow_sub-w : goal.overflow_sub-w
overflow_sub-w c = omega (arith, c.next_change-w.ensures.0.above)

pub move_on-requires : goal.move_on-requires
move_on-requires c =
    let p = c.requires in
    (p.0.target, omega (arith, c.next_change-w.ensures.0.below, p.1, source-low p.0))

pub returns : goal.returns
returns c =
    let x = c.next_change-w in
    skipped c.requires.0 c.args.c x.result c.requires.1 c.requires.2 x.ensures.0 x.ensures.1 _
    c.move_on.ensures
