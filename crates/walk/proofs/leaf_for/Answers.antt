-- `leaf_for` meets its contract. Assumes nothing.
use Prim.Native.Nat.{ℕ, suc, ◌-◌, ◌+◌, ◌<◌}
use native.Mathlib.Omega.{arith}
use mathlib.Core.Path.{◌≡◌, ap, sym, ◌∙◌}
use Rattle.model.specs.Layout.{decode}
use Rattle.store.proofs.laws.Sure.{few}
use Rattle.walk.proofs.laws.Sure.{root-covers, covers-inside}
use Rattle.walk.proofs.laws.Down.{leaf_down, way-leaf}
use Rattle.walk.proofs.laws.Covers.{covers-starts, covers-own}
use Rattle.walk.proofs.leaf_for.Goals as goal

-- one level more is left
level : (up i : ℕ) → i < up → up - i ≡ suc (up - (i + 1))
level up i h = omega arith

pub height_of-up-requires : goal.height_of-up-requires
height_of-up-requires c =
    let r = c.requires.0 in
    let k = root-covers r c.args.key c.requires.1 in
    rw c.root_at-n.ensures
    (covers-inside r _ _ _ k, few r.edition c.args.s.now r.sound, omega (arith, k.level))

pub loop-init : goal.loop-init
loop-init c =
    let r = c.requires.0 in
    let a = c.args in
    let e : c.height_of-up.result - 0 ≡ c.height_of-up.result = omega arith in
    rw (e, c.height_of-up.ensures, c.root_at-n.ensures)
    (root-covers r a.key c.requires.1, way-leaf (decode a.l.least a.s.now) a.v a.key)

pub child-n-requires : goal.child-n-requires
child-n-requires c =
    let r = c.requires.0 in
    let a = c.args in
    let l = c.loop in
    let k = rw (level c.height_of-up.result l.counter c.loop-test.true) at l.invariant.0 in (
      covers-inside r _ _ _ k,
      few r.edition a.s.now r.sound,
      covers-starts a.l.least a.v (decode a.l.least a.s.now).pages _ l.n a.key k,
    )

pub loop-preserved : goal.loop-preserved
loop-preserved c =
    let a = c.args in
    let l = c.loop in
    let e = level c.height_of-up.result l.counter c.loop-test.true in
    let k = rw e at l.invariant.0 in
    rw c.child-n.ensures (
      covers-own a.l.least a.v (decode a.l.least a.s.now).pages _ l.n a.key k,
      l.invariant.1 ∙ ap (λ (u : ℕ). leaf_down u (decode a.l.least a.s.now).pages a.v a.key l.n) e,
    )

pub returns : goal.returns
returns c =
    let a = c.args in
    let l = c.loop in
    let e : c.height_of-up.result - l.counter ≡ 0 = omega (arith, c.loop-test.false) in
    record {
      is = sym (l.invariant.1 ∙ ap (λ (u : ℕ). leaf_down u (decode a.l.least a.s.now).pages a.v a.key l.n) e);
      covers = rw e at l.invariant.0;
    }
