-- `merge` meets its contract. Assumes nothing.
use Rattle.differ.proofs.laws.Halfway.{half-start, half-end, half-on, half-space, half-old, half-new, half_step}
use native.Mathlib.Omega.{arith}
use Rattle.differ.proofs.leaves.merge.Goals as goal

pub side_from-x-requires : goal.side_from-x-requires
side_from-x-requires c = (c.requires.0, omega arith, c.requires.2.rises)

pub side_from-y-requires : goal.side_from-y-requires
side_from-y-requires c = (c.requires.1, omega arith, c.requires.3.rises)

pub loop-key-init : goal.loop-key-init
loop-key-init c =
    let a = c.args in
    let o = c.requires.2 in
    let w = c.requires.3 in
    half-start a.p.now a.m a.q.now a.n a.a o w c.requires.4 _ _ c.side_from-x.ensures
    c.side_from-y.ensures

pub put-sum-requires : goal.put-sum-requires
put-sum-requires c =
    let a = c.args in
    let o = c.requires.2 in
    let w = c.requires.3 in
    half-space a.p.now a.m a.q.now a.n a.a o w c.loop-key.invariant c.loop-key-test.true
    c.compared-d.result c.compared-d.ensures

pub overflow_add-key : goal.overflow_add-key
overflow_add-key c =
    let a = c.args in
    let o = c.requires.2 in
    let w = c.requires.3 in
    omega (
      arith,
      (half-on a.p.now a.m a.q.now a.n a.a o w c.loop-key.invariant c.loop-key-test.true
          c.compared-d.result c.compared-d.ensures).high,
    )

pub on-x-requires : goal.on-x-requires
on-x-requires c =
    let a = c.args in
    let o = c.requires.2 in
    let w = c.requires.3 in (
      c.requires.0,
      c.loop-key.invariant.old,
      half-old a.p.now a.m a.q.now a.n a.a o w c.loop-key.invariant
          c.loop-key-test.true c.compared-d.result c.compared-d.ensures,
    )

pub on-y-requires : goal.on-y-requires
on-y-requires c =
    let a = c.args in
    let o = c.requires.2 in
    let w = c.requires.3 in (
      c.requires.1,
      c.loop-key.invariant.new,
      half-new a.p.now a.m a.q.now a.n a.a o w c.loop-key.invariant
          c.loop-key-test.true c.compared-d.result c.compared-d.ensures,
    )

pub loop-key-smaller : goal.loop-key-smaller
loop-key-smaller c =
    let a = c.args in
    let o = c.requires.2 in
    let w = c.requires.3 in
    let g = half-on a.p.now a.m a.q.now a.n a.a o w c.loop-key.invariant c.loop-key-test.true
    c.compared-d.result c.compared-d.ensures in
    omega (arith, g.low, g.high, c.loop-key-test.true)

pub loop-key-preserved : goal.loop-key-preserved
loop-key-preserved c =
    let a = c.args in
    let o = c.requires.2 in
    let w = c.requires.3 in
    half_step a.p.now a.m a.q.now a.n a.a o w c.loop-key.invariant c.loop-key-test.true
    c.compared-d.result c.compared-d.ensures _ _ c.put-sum.ensures _ _ c.on-x.ensures
    c.on-y.ensures

pub returns : goal.returns
returns c =
    let a = c.args in
    let o = c.requires.2 in
    let w = c.requires.3 in
    half-end a.p.now a.m a.q.now a.n a.a o w c.loop-key.invariant c.loop-key-test.false
