-- `reach::change::page_change` meets its contract: nothing of the first i entries starts or ends behind v and before q. Assumes nothing.
use Prim.Native.Nat.{◌≤◌, ◌+◌, ◌*◌}
use mathlib.Core.Path.{◌≡◌, ap}
use native.Mathlib.Omega.{arith}
use Rattle.reach.proofs.laws.Quiet.{quiet_none, quiet-more, quiet_one}
use Rattle.page.specs.Head.{read_head}
use Rattle.page.specs.declared.Head.{Head}
use Rattle.model.proofs.sound.Quiet.{out-less}
use Rattle.reach.proofs.change.page_change.Goals as goal
use Rattle.reach.proofs.change.page_change.Goals.{After-head_of-h}

pub returns-then-r-v-eq1 : goal.returns-then-r-v-eq1
returns-then-r-v-eq1 c =
    let a = c.args in let pre = c.requires in
    let e : a.r ≡ a.v + 1 = omega (arith, c.if-r-v-eq1.true, pre.2) in
    (record { below = omega arith; above = pre.2 }, quiet_one a.l.least a.page.now a.v a.r e)

few : (c : After-head_of-h) → c.head_of-h.result.count ≤ 5 * c.args.l.least
few c = omega (arith, ap (λ (z : Head). z.count) c.head_of-h.ensures, c.requires.1)

pub loop-i-init : goal.loop-i-init
loop-i-init c = (
  omega arith,
  c.sooner-q.ensures.0.above,
  quiet_none c.args.page.now c.args.v c.sooner-q.result,
)

pub loop-i-preserved : goal.loop-i-preserved
loop-i-preserved c =
    let a = c.args in let k = c.loop-i in let e = c.entry_at-e.ensures in
    let x = c.sooner-in-loop-i.ensures in let y = c.sooner-q-in-loop-i.ensures in (
      omega (arith, x.0.below, y.0.below, k.invariant.0),
      y.0.above,
      quiet-more a.page.now k.i a.v k.q c.sooner-q-in-loop-i.result k.invariant.2 (omega (arith, x.0.below, y.0.below))
          (rw e at (out-less _ _ _ _ x.1 y.0.below)) (rw e at y.1),
    )

pub returns : goal.returns
returns c =
    let a = c.args in let k = c.loop-i in let x = c.sooner.ensures in
    let y = c.sooner-q.ensures in
    let e : k.i ≡ (read_head a.l.least a.page.now).count
    = omega (arith, c.loop-i.auto.i-end, c.loop-i-test.false, ap (λ (z : Head). z.count) c.head_of-h.ensures) in (
      record { below = omega (arith, x.0.below, y.0.below, k.invariant.0); above = k.invariant.1 },
      record {
        start = out-less _ c.sooner-q.result _ _ (rw c.head_of-h.ensures at (out-less _ _ _ _ x.1 y.0.below))
            k.invariant.0;
        end = out-less _ c.sooner-q.result _ _ (rw c.head_of-h.ensures at y.1) k.invariant.0;
        entries = rw e at k.invariant.2;
      },
    )
