-- `leaf_for` meets its contract. Assumes nothing.
use Rattle.cursor.specs.Leaf.{Below}
use Rattle.cursor.proofs.laws.Leaf.{below_root}
use Rattle.walk.proofs.laws.Sure.{covers-inside, root-covers}
use Rattle.store.proofs.laws.Sure.{few}
use mathlib.Core.Path.{◌≡◌, subst}
use native.Mathlib.Omega.{arith}
use Prim.Native.Nat.{ℕ}
use Rattle.cursor.proofs.leaf_for.Goals as goal

pub height_of-up-requires : goal.height_of-up-requires
height_of-up-requires c =
    let r = c.requires.0 in
    let k = root-covers r c.args.key c.requires.1 in
    rw c.root_at-n.ensures
    (covers-inside r _ _ _ k, few r.edition c.args.s.now r.sound, omega (arith, k.level))

pub loop-up-init : goal.loop-up-init
loop-up-init c = rw (c.height_of-up.ensures, c.root_at-n.ensures) (below_root c.requires.0 c.args.key c.requires.1)

pub returns : goal.returns
returns c =
    let a = c.args in
    let l = c.loop-up in
    let e : l.up ≡ 0 = omega (arith, c.loop-up-test.false) in
    subst (λ (n : ℕ). Below a.l a.s.now a.v n a.key l.u) e l.invariant
