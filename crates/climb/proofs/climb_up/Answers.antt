use Prim.Native.Nat.{◌-◌}
use native.Mathlib.Omega.{arith}
use mathlib.Core.Path.{refl, sym, ◌∙◌}
use Rattle.edit.specs.Change.{change_of}
use Rattle.parts.proofs.laws.Becomes.{stays, kept-after, then}
use Rattle.parts.specs.Kept.{pages_of}
use Rattle.climb.specs.Work.{worked_of}
use Rattle.climb.proofs.laws.Climb.{climb-step, climb-end, placed-after}
use Rattle.std.proofs.lemmas.Result.{err_from_is_err_and}
use Rattle.climb.proofs.climb_up.Goals as goal

pub loop-k-init : goal.loop-k-init
loop-k-init c = (omega arith, c.requires.2, stays c.requires.0, refl)

pub bounds-list-k : goal.bounds-list-k
bounds-list-k c = omega (arith, c.requires.1.size, c.requires.1.few, c.loop-k.invariant.0)

pub work-requires : goal.work-requires
work-requires c = (
  kept-after c.requires.0 c.loop-k.invariant.2,
  placed-after c.requires.0 c.loop-k.invariant.2
      (c.requires.1.at (c.loop-k.k - 1) (omega (arith, c.loop-k.invariant.0))),
  c.loop-k.invariant.1,
  c.requires.3,
  c.requires.4 ∙ sym c.loop-k.invariant.2.long,
)

pub returns-in_err-e : goal.returns-in_err-e
unfolding worked_of
returns-in_err-e c =
    let p = err_from_is_err_and c.from_residual.result c.from_residual.ensures.1 in
    rw p.1 (
      climb-step c.args.l.least c.args.w c.args.way.list (change_of c.loop-k.d)
          (pages_of c.args.l c.loop-k.s) c.loop-k.k (omega arith) _ c.in_err-e.ensures.0 ∙ c.loop-k.invariant.3,
      then c.requires.0 c.loop-k.invariant.2 c.in_err-e.ensures.1,
      p.2 ∙ c.in_err-e.ensures.2,
    )

pub returns-in-None : goal.returns-in-None
unfolding worked_of
returns-in-None c =
    let z = rw c.in-None.is at c.in_ok-e.ensures in (
      climb-step c.args.l.least c.args.w c.args.way.list (change_of c.loop-k.d)
          (pages_of c.args.l c.loop-k.s) c.loop-k.k (omega arith) _ z.0 ∙ c.loop-k.invariant.3,
      then c.requires.0 c.loop-k.invariant.2 z.1,
      tt,
    )

pub loop-k-preserved : goal.loop-k-preserved
unfolding worked_of
loop-k-preserved c =
    let z = rw c.in-Some.is at c.in_ok-e.ensures in (
      omega (arith, c.loop-k.invariant.0),
      z.2,
      then c.requires.0 c.loop-k.invariant.2 z.1,
      climb-step c.args.l.least c.args.w c.args.way.list (change_of c.loop-k.d)
          (pages_of c.args.l c.loop-k.s) c.loop-k.k (omega arith) _ z.0 ∙ c.loop-k.invariant.3,
    )

pub returns : goal.returns
unfolding worked_of
returns c = (
  climb-end c.args.l.least c.args.w c.args.way.list (change_of c.loop-k.d)
      (pages_of c.args.l c.loop-k.s) c.loop-k.k (omega arith) ∙ c.loop-k.invariant.3,
  c.loop-k.invariant.2,
  c.loop-k.invariant.1,
)
