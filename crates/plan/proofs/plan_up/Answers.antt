use Rattle.plan.specs.Plan.{planned_of, outlook_of}
use Rattle.plan.proofs.laws.Plan.{up-by, up-end}
use Rattle.parts.specs.Kept.{pages_of}
use Rattle.edit.specs.Change.{change_of}
use Rattle.std.proofs.lemmas.Result.{err_from_is_err_and}
use mathlib.Core.Path.{refl, sym, ◌∙◌}
use native.Mathlib.Omega.{arith}
use Prim.Native.Nat.{◌-◌}
use Rattle.plan.proofs.plan_up.Goals as goal
use Rattle.plan.proofs.plan_up.Goals.{After-plan_level}

pub loop-k-init : goal.loop-k-init
loop-k-init c = (omega arith, c.requires.2, omega arith, refl)

pub bounds-list-k : goal.bounds-list-k
bounds-list-k c = omega (arith, c.requires.1.size, c.requires.1.few, c.loop-k.invariant.0)

pub plan_level-requires : goal.plan_level-requires
plan_level-requires c = (
  c.requires.0,
  c.requires.1.at (c.loop-k.k - 1) (omega (arith, c.loop-k.invariant.0)),
  c.loop-k.invariant.1,
  omega (arith, c.loop-k.invariant.2, c.requires.3, c.requires.1.few),
)

pub returns-in_err-e : goal.returns-in_err-e
unfolding planned_of outlook_of
returns-in_err-e c =
    let p = err_from_is_err_and c.from_residual.result c.from_residual.ensures.1 in
    rw (p.1, p.2) (
      sym (c.loop-k.invariant.3 ∙ up-by c.args.l.least c.args.w (pages_of c.args.l c.args.s.now) c.args.way.root
          c.args.way.list (change_of c.loop-k.d) c.loop-k.free c.loop-k.k (omega arith) _ c.in_err-e.ensures.0),
      c.in_err-e.ensures.2,
    )

pub loop-k-preserved : goal.loop-k-preserved
unfolding planned_of
loop-k-preserved c =
    let z = rw c.in-Some.is at c.in_ok-e.ensures in (
      omega arith,
      z.1.0,
      omega (arith, z.1.1, c.loop-k.invariant.2),
      c.loop-k.invariant.3 ∙ up-by c.args.l.least c.args.w (pages_of c.args.l c.args.s.now) c.args.way.root
          c.args.way.list (change_of c.loop-k.d) c.loop-k.free c.loop-k.k (omega arith) _ z.0,
    )

pub returns-in-None : goal.returns-in-None
unfolding planned_of outlook_of
returns-in-None c =
    let z = rw c.in-None.is at c.in_ok-e.ensures in (
      sym (c.loop-k.invariant.3 ∙ up-by c.args.l.least c.args.w (pages_of c.args.l c.args.s.now) c.args.way.root
          c.args.way.list (change_of c.loop-k.d) c.loop-k.free c.loop-k.k (omega arith) _ z.0),
      tt,
    )

pub plan_root-requires : goal.plan_root-requires
plan_root-requires c = (
  c.requires.0,
  c.requires.1.root,
  c.loop-k.invariant.1,
  omega (arith, c.loop-k.invariant.2, c.requires.3, c.requires.1.few),
)

pub returns : goal.returns
returns c = (
  c.plan_root.ensures.0
      ∙ sym (c.loop-k.invariant.3 ∙ up-end c.args.l.least c.args.w (pages_of c.args.l c.args.s.now) c.args.way.root
      c.args.way.list (change_of c.loop-k.d) c.loop-k.free c.loop-k.k (omega arith)),
  c.plan_root.ensures.1,
)
