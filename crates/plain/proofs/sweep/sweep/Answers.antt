-- `sweep` meets its contract: what is left is the sweep of the items from place i on. Assumes nothing.
use Prim.Native.Nat.{ℕ, ◌+◌}
use native.Mathlib.Omega.{arith}
use mathlib.Core.Path.{ap, sym, ◌∙◌}
use mathlib.Core.List.{List}
use Rattle.model.proofs.reading.Telling.{gather-start, gather-same, gather-step, gather-end}
use Rattle.plain.specs.Items.{from, kept}
use Rattle.plain.specs.Sweep.{kept_by, swept}
use Rattle.plain.proofs.laws.Items.{from_end}
use Rattle.plain.proofs.laws.Sweep.{swept-next, swept_none, swept-space, swept-read, kept-few, from-kept}
use Rattle.plain.proofs.sweep.sweep.Goals as goal

pub loop-i-init : goal.loop-i-init
loop-i-init g c = (omega arith, λ f says. gather-start kept (swept-space f c.args.n c.args.items.now c.requires.lent))

pub loop-i-preserved : goal.loop-i-preserved
loop-i-preserved g c =
    let a = c.args in
    let k = c.loop-i in
    let e = c.item-e in
    let o = c.fate.result in
    let kept-then = c.keep-j.ensures in
    let few = kept-few e.result o in (
      omega (arith, k.invariant.0, kept-then.count, few),
      λ f says. let next = swept-next f k.items k.i a.n c.loop-i-test.true e.result o e.ensures (says e.result o c.fate.ensures) in
          let step = gather-step kept (kept_by e.result o) (swept f (from k.items (k.i + 1) a.n))
          (gather-same kept next (k.invariant.1 f says)) _ _ kept-then in
          let same = ap (λ (ms : List ℕ). from ms (k.i + 1) a.n) kept-then.list
          ∙ from-kept k.items k.j e.result o (k.i + 1) a.n (omega (arith, k.invariant.0)) in
          gather-same kept (ap (swept f) (sym same)) step,
    )

pub returns : goal.returns
returns g c f says =
    let a = c.args in
    let k = c.loop-i in
    swept-read f a.n a.items.now k.items k.j c.requires.lent
    (gather-end kept
    (gather-same kept (ap (swept f) (from_end k.items k.i a.n c.loop-i-test.false) ∙ swept_none f) (k.invariant.1 f says)))
