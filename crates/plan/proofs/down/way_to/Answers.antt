use Rattle.plan.proofs.laws.Way.{root-inside, root-level, going_start, going-inside, going-live, going_step, going_end}
use Rattle.parts.specs.Kept.{ExactBytes}
use Rattle.parts.proofs.laws.Kept.{kept-sound}
use mathlib.Core.Path.{◌≡◌}
use native.Mathlib.Omega.{arith}
use Prim.Native.Nat.{◌+◌, ◌-◌}
use Rattle.plan.proofs.down.way_to.Goals as goal
use Rattle.plan.proofs.down.way_to.Goals.{After-shared_slice_known-1}

kept : (c : After-shared_slice_known-1) → ExactBytes c.args.l c.args.s.now
kept c =
    kept-sound c.requires.0.edition c.args.s.now c.requires.0.sound (λ i. (c.shared_slice_known-1.given i).fits)

pub level_of-requires : goal.level_of-requires
level_of-requires c = (
  kept (goal.at.level_of-requires c).After-shared_slice_known-1,
  root-inside c.args.l c.args.s.now c.args.w c.args.key
      c.root_at-root.result c.requires.0 c.requires.1 c.root_at-root.ensures,
)

pub overflow_sub-n : goal.overflow_sub-n
overflow_sub-n c =
    omega (
      arith,
      c.level_of.ensures,
      root-level c.args.l c.args.s.now c.args.w c.args.key
          c.root_at-root.result c.requires.0 c.requires.1 c.root_at-root.ensures,
    )

pub loop-i-init : goal.loop-i-init
loop-i-init c =
    let e : c.level_of.result - 1 - 0 ≡ c.level_of.result - 1 = omega arith in
    rw e
    (going_start c.args.l c.args.s.now c.args.w c.args.key c.root_at-root.result
    c.requires.0 c.requires.1 c.root_at-root.ensures (c.level_of.result - 1)
    (omega (
      arith,
      c.level_of.ensures,
      root-level c.args.l c.args.s.now c.args.w c.args.key
          c.root_at-root.result c.requires.0 c.requires.1 c.root_at-root.ensures,
    )))

pub place_below-a-requires : goal.place_below-a-requires
place_below-a-requires c =
    let up = c.level_of.result - 1 - c.loop-i.i in (
      kept (goal.at.place_below-a-requires c).After-shared_slice_known-1,
      going-inside c.args.l c.args.s.now c.args.w c.args.key c.root_at-root.result
          c.requires.0 c.requires.1 c.root_at-root.ensures c.loop-i.list up c.loop-i.i
          c.loop-i.at (omega arith) c.loop-i.invariant,
      going-live c.args.l c.args.s.now c.args.w c.args.key c.root_at-root.result
          c.requires.0 c.requires.1 c.root_at-root.ensures c.loop-i.list up c.loop-i.i
          c.loop-i.at (omega arith) c.loop-i.invariant,
    )

pub bounds-list-i : goal.bounds-list-i
bounds-list-i c = omega (arith, c.loop-i.invariant.few, c.loop-i.invariant.size)

pub loop-i-preserved : goal.loop-i-preserved
loop-i-preserved c =
    let up = c.level_of.result - 1 - c.loop-i.i in
    let e : up - 1 ≡ c.level_of.result - 1 - (c.loop-i.i + 1) = omega arith in
    rw (← e)
    (going_step c.args.l c.args.s.now c.args.w c.args.key c.root_at-root.result
    c.requires.0 c.requires.1 c.root_at-root.ensures c.loop-i.list up c.loop-i.i
    c.loop-i.at (omega arith) c.loop-i.invariant c.place_below-a.result
    c.place_below-a.ensures.0 c.place_below-a.ensures.1)

pub returns : goal.returns
returns c =
    let e : c.loop-i.i ≡ c.level_of.result - 1 = omega arith in
    rw (← e)
    (going_end c.args.l c.args.s.now c.args.w c.args.key c.root_at-root.result
    c.requires.0 c.requires.1 c.root_at-root.ensures c.loop-i.list
    (c.level_of.result - 1 - c.loop-i.i) c.loop-i.i
    c.loop-i.at (omega arith) c.loop-i.invariant)
