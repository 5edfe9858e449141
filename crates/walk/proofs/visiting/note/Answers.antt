-- `note` meets its contract. Assumes nothing.
use Prim.Native.Nat.{ℕ, ◌-◌, ◌+◌}
use native.Mathlib.Omega.{arith}
use mathlib.Core.Path.{◌≡◌, ap, ◌∙◌}
use lib.ListN.{set}
use Rattle.model.specs.Layout.{decode}
use Rattle.store.proofs.laws.Sure.{few}
use Rattle.walk.proofs.laws.Sure.{covers-inside}
use Rattle.walk.proofs.laws.Covers.{covers-starts}
use Rattle.walk.proofs.laws.Visited.{covers-number, noting-start, noting-covers, noting-step, noting-end}
use Rattle.walk.proofs.visiting.note.Goals as goal

pub loop-i-init : goal.loop-i-init
loop-i-init c = noting-start c.requires.1

pub overflow_cast-list : goal.overflow_cast-list
overflow_cast-list c = omega (arith, covers-number c.requires.0 _ _ _ c.loop-i.invariant.covers)

pub bounds-list-i : goal.bounds-list-i
bounds-list-i c =
    let l = c.loop-i in
    omega (arith, l.invariant.same, c.loop-i-test.true, c.requires.2)

pub child-here-requires : goal.child-here-requires
child-here-requires c =
    let r = c.requires.0 in
    let a = c.args in
    let l = c.loop-i in
    let k = noting-covers l.invariant c.loop-i-test.true in (
      covers-inside r _ _ _ k,
      few r.edition a.s.now r.sound,
      covers-starts a.l.least a.v (decode a.l.least a.s.now).pages (a.up - (l.i + 1)) l.here a.key k,
    )

pub loop-i-preserved : goal.loop-i-preserved
loop-i-preserved c =
    let l = c.loop-i in
    rw c.child-here.ensures (noting-step l.invariant c.loop-i-test.true)

pub overflow_cast-list-2 : goal.overflow_cast-list-2
overflow_cast-list-2 c = omega (arith, covers-number c.requires.0 _ _ _ c.loop-i.invariant.covers)

pub returns : goal.returns
returns c =
    let e : c.args.up ≡ c.loop-i.i = omega (arith, c.loop-i.invariant.within) in
    ap (λ (i : ℕ). set c.loop-i.list i c.loop-i.here) e ∙ noting-end c.loop-i.invariant (omega arith)
