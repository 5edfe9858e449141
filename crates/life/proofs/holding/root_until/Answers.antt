-- `holding::root_until` meets its contract: by the first i slots one root serves up to q. Assumes nothing.
use Rattle.model.proofs.Edition.{edition}
use Prim.Native.Nat.{ℕ, suc, ◌+◌, ◌*◌}
use native.Mathlib.Omega.{arith}
use mathlib.Core.List.{List}
use mathlib.Core.Path.{◌≡◌, ap, sym, ◌∙◌, subst}
use Rattle.model.specs.declared.Header.{Header}
use Rattle.model.specs.declared.Slot.{Slot}
use Rattle.model.specs.Layout.{read_slots}
use Rattle.model.specs.Walk.{root_at}
use Rattle.store.proofs.laws.Read.{slots-of}
use Rattle.store.proofs.laws.Sure.{few, front, roots}
use Rattle.model.specs.Still.{Until}
use Rattle.life.proofs.laws.Still.{roots-none, roots-more}
use Rattle.life.proofs.holding.root_until.Goals as goal

pub header-h-requires : goal.header-h-requires
header-h-requires c =
    let p = c.requires in
    (omega (arith, front (edition c.args.l) c.args.s.now p.0), few (edition c.args.l) c.args.s.now p.0)

pub loop-i-init : goal.loop-i-init
loop-i-init c =
    let a = c.args in
    roots-none a.s.now (512 * a.l.least) a.v a.r c.requires.1

pub slot-requires : goal.slot-requires
slot-requires c =
    let p = c.requires in
    let a = c.args in
    let e = ap (λ (h : Header). h.roots) c.header-h.ensures in
    (front (edition c.args.l) a.s.now p.0, omega (arith, roots (edition c.args.l) a.s.now p.0, e), few (edition c.args.l) a.s.now p.0)

pub loop-i-preserved : goal.loop-i-preserved
loop-i-preserved c =
    let a = c.args in
    let k = c.loop-i in
    let e : suc k.i ≡ k.i + 1 = omega arith in
    subst (λ (j : ℕ). Until a.v a.r (root_at (read_slots a.s.now (512 * a.l.least) j)) c.sooner-q.result) e
    (roots-more a.s.now (512 * a.l.least) a.v a.r k.i k.q c.sooner-q.result k.invariant
    (rw c.slot.ensures at c.sooner-q.ensures))

pub returns : goal.returns
returns c =
    let a = c.args in
    let k = c.loop-i in
    let e = ap (λ (h : Header). h.roots) c.header-h.ensures in
    let i = k.i in
    subst (λ (xs : List Slot). Until a.v a.r (root_at xs) k.q)
    (ap (read_slots a.s.now (512 * a.l.least)) (omega (arith, c.loop-i-test.false) ∙ e)
    ∙ sym (slots-of a.l.least a.s.now)) k.invariant
