-- `first_from` meets its contract. Assumes nothing.
use Rattle.cursor.proofs.laws.Leaf.{first_found, first-further, first-end}
use Rattle.model.specs.Walk.{settings}
use Rattle.model.specs.Layout.{decode}
use mathlib.Core.Path.{sym, ◌∙◌}
use native.Mathlib.Omega.{arith}
use Rattle.cursor.proofs.first_from.Goals as goal

pub leaf_for-u-requires : goal.leaf_for-u-requires
leaf_for-u-requires c = (c.requires, c.loop-key-test.true)

pub first_in-x-requires : goal.first_in-x-requires
first_in-x-requires c = (c.requires, c.leaf_for-u.ensures)

pub returns-then-x-lt-KEYS : goal.returns-then-x-lt-KEYS
returns-then-x-lt-KEYS c =
    let a = c.args in
    let l = c.loop-key in
    let u = c.leaf_for-u.result in
    let e = c.first_in-x.ensures in
    e ∙ first_found a.l.least a.v (decode a.l.least a.s.now).pages (settings (decode a.l.least a.s.now) a.v)
    u.page l.key u.high c.leaf_for-u.ensures (rw e at c.if-x-lt-KEYS.true) ∙ sym l.invariant

pub loop-key-smaller : goal.loop-key-smaller
loop-key-smaller c = let g = c.leaf_for-u.ensures in omega (arith, g.below, c.loop-key-test.true)

pub loop-key-preserved : goal.loop-key-preserved
loop-key-preserved c =
    let a = c.args in
    let l = c.loop-key in
    let u = c.leaf_for-u.result in
    let e = c.first_in-x.ensures in
    l.invariant ∙ first-further a.l.least a.v (decode a.l.least a.s.now).pages
    (settings (decode a.l.least a.s.now) a.v) u.page l.key u.high c.leaf_for-u.ensures
    (rw e at c.if-x-lt-KEYS.false)

pub returns : goal.returns
returns c =
    let l = c.loop-key in
    first-end c.requires l.key c.loop-key-test.false ∙ sym l.invariant
