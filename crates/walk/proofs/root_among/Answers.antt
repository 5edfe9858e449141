-- `root_among` meets its contract. Assumes nothing.
use Prim.Native.Nat.{ℕ, suc, ◌-◌, ◌*◌}
use native.Mathlib.Omega.{arith}
use mathlib.Core.List.{List}
use mathlib.Core.Path.{◌≡◌, ap, sym, ◌∙◌}
use Rattle.model.specs.Layout.{read_slots}
use Rattle.model.specs.Walk.{root_at}
use Rattle.model.specs.declared.Header.{Header}
use Rattle.model.specs.declared.Slot.{Slot}
use Rattle.store.proofs.laws.Read.{slots-of}
use Rattle.walk.proofs.laws.Down.{root-here, root_before, root_none}
use Rattle.walk.proofs.root_among.Goals as goal

pub header-h-requires : goal.header-h-requires
header-h-requires c =
    let p = c.requires in
    (omega (arith, p.front), p.few)

pub loop-i-init : goal.loop-i-init
loop-i-init c =
    let e = ap (λ (h : Header). h.roots) c.header-h.ensures in (
      omega arith,
      rw e (ap (λ (xs : List Slot). root_at xs c.args.v) (slots-of c.args.l.least c.args.s.now)),
    )

pub slot-x-requires : goal.slot-x-requires
slot-x-requires c =
    let p = c.requires in
    let e = ap (λ (h : Header). h.roots) c.header-h.ensures in
    (p.front, omega (arith, p.roots, e), p.few)

pub returns-then-x-v : goal.returns-then-x-v
returns-then-x-v c =
    let a = c.args in
    let l = c.loop-i in
    let x = c.slot-x.ensures in
    let e : l.i ≡ suc (l.i - 1) = omega (arith, c.loop-i-test.true) in
    ap (λ (z : Slot). z.root) x
    ∙ sym (l.invariant.1 ∙ ap (λ (n : ℕ). root_at (read_slots a.s.now (512 * a.l.least) n) a.v) e
    ∙ root-here a.s.now (512 * a.l.least) a.v (l.i - 1) (rw x at c.if-x-v.true))

pub loop-i-preserved : goal.loop-i-preserved
loop-i-preserved c =
    let a = c.args in
    let l = c.loop-i in
    let x = c.slot-x.ensures in
    let e : l.i ≡ suc (l.i - 1) = omega (arith, c.loop-i-test.true) in (
      omega arith,
      l.invariant.1 ∙ ap (λ (n : ℕ). root_at (read_slots a.s.now (512 * a.l.least) n) a.v) e
          ∙ root_before a.s.now (512 * a.l.least) a.v (l.i - 1) (rw x at c.if-x-v.false),
    )

pub returns : goal.returns
returns c =
    let a = c.args in
    let l = c.loop-i in
    let e : l.i ≡ 0 = omega (arith, c.loop-i-test.false) in
    sym (l.invariant.1 ∙ ap (λ (n : ℕ). root_at (read_slots a.s.now (512 * a.l.least) n) a.v) e
    ∙ root_none a.s.now (512 * a.l.least) a.v)
