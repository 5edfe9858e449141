-- `holding::answer_until` meets its contract: up to q every lookup comes to page n. Assumes nothing.
use Prim.Native.Nat.{ℕ, suc, ◌-◌, ◌+◌}
use native.Mathlib.Omega.{arith}
use mathlib.Core.Path.{◌≡◌, subst}
use Rattle.model.specs.Layout.{decode}
use Rattle.store.proofs.laws.Sure.{few}
use Rattle.walk.proofs.laws.Covers.{covers-starts}
use Rattle.walk.proofs.laws.Sure.{root-covers, covers-inside}
use Rattle.life.proofs.laws.Way.{LookupsCome, going_start, going-down, going_end}
use Rattle.life.proofs.holding.answer_until.Goals as goal
use Rattle.life.proofs.holding.answer_until.Goals.{After-shown_until-q}

pub root_until-q-requires : goal.root_until-q-requires
root_until-q-requires c = let p = c.requires in (p.0.sound, p.2)

pub root_at-n-requires : goal.root_at-n-requires
root_at-n-requires c = let p = c.requires in (p.0.sound)

pub height_of-up-requires : goal.height_of-up-requires
height_of-up-requires c =
    let r = c.requires.0 in
    let a = c.args in
    let k = root-covers r a.key c.requires.1 in
    rw c.root_at-n.ensures (covers-inside r _ _ _ k, few r.edition a.s.now r.sound, omega (arith, k.level))

pub loop-init : goal.loop-init
loop-init c =
    let r = c.requires.0 in
    let a = c.args in
    let e : c.height_of-up.result - 0 ≡ c.height_of-up.result = omega arith in
    rw (e, c.height_of-up.ensures, c.root_at-n.ensures)
    (going_start a.l.least (decode a.l.least a.s.now) a.key a.v a.r c.root_until-q.result
    c.root_until-q.ensures (root-covers r a.key c.requires.1))

pub shown_until-q-requires : goal.shown_until-q-requires
shown_until-q-requires c =
    let r = c.requires.0 in
    let a = c.args in
    let g = c.loop.invariant in
    (covers-inside r _ _ _ g.covers, few r.edition a.s.now r.sound, g.above)

-- above the leaves
deeper : (c : After-shown_until-q)
    →
    let a = c.args in let k = c.loop in
    LookupsCome a.l.least (decode a.l.least a.s.now) a.key a.v a.r k.q (suc (c.height_of-up.result - (k.counter + 1))) k.n
deeper c =
    let a = c.args in
    let k = c.loop in
    let e : c.height_of-up.result - k.counter ≡ suc (c.height_of-up.result - (k.counter + 1)) = omega (arith, c.loop-test.true) in
    subst (λ (u : ℕ). LookupsCome a.l.least (decode a.l.least a.s.now) a.key a.v a.r k.q u k.n) e k.invariant

pub child-n-requires : goal.child-n-requires
child-n-requires c =
    let r = c.requires.0 in
    let a = c.args in
    let k = c.loop in
    let g = (deeper (goal.at.child-n-requires c).After-shown_until-q).covers in (
      covers-inside r _ _ _ g,
      few r.edition a.s.now r.sound,
      covers-starts a.l.least a.v (decode a.l.least a.s.now).pages (c.height_of-up.result - (k.counter + 1)) k.n a.key g,
    )

pub loop-preserved : goal.loop-preserved
loop-preserved c =
    let a = c.args in
    let k = c.loop in
    rw c.child-n.ensures
    (going-down a.l.least (decode a.l.least a.s.now) a.key a.v a.r k.q (c.height_of-up.result - (k.counter + 1)) k.n
    c.shown_until-q.result (deeper (goal.at.loop-preserved c).After-shown_until-q) c.shown_until-q.ensures)

pub shown_until-requires : goal.shown_until-requires
shown_until-requires c =
    let r = c.requires.0 in
    let a = c.args in
    let g = c.loop.invariant in
    (covers-inside r _ _ _ g.covers, few r.edition a.s.now r.sound, g.above)

pub returns : goal.returns
returns c =
    let a = c.args in
    let k = c.loop in
    let e : c.height_of-up.result - k.counter ≡ 0 = omega (arith, c.loop-test.false) in
    going_end a.l.least (decode a.l.least a.s.now) a.key a.v a.r k.q k.n c.shown_until.result
    (subst (λ (u : ℕ). LookupsCome a.l.least (decode a.l.least a.s.now) a.key a.v a.r k.q u k.n) e k.invariant)
    c.shown_until.ensures
