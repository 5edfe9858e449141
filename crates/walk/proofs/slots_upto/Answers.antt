-- `slots_upto` meets its contract: the slot in the middle tells which half is left. Assumes nothing.
use Rattle.model.proofs.Edition.{edition}
use Prim.Native.Nat.{ℕ, ◌+◌, ◌*◌, ◌/◌}
use mathlib.Core.Path.{◌≡◌, ◌∙◌}
use native.Mathlib.Omega.{arith}
use Rattle.model.specs.Field.{field}
use Rattle.bits.proofs.laws.Laws.{field-bytes}
use Rattle.page.proofs.laws.Editions.{bytes-is}
use Rattle.walk.proofs.laws.Down.{halved-start, halved-low, halved-high, halved-end, slot-upto, slot-above}
use Rattle.walk.proofs.slots_upto.Goals as goal
use Rattle.walk.proofs.slots_upto.Goals.{After-four}

pub loop-low-init : goal.loop-low-init
loop-low-init c = let a = c.args in halved-start a.s.now (512 * a.l.least) a.v a.n

pub overflow_add-m : goal.overflow_add-m
overflow_add-m c =
    let p = c.requires in
    omega (arith, bytes-is (edition c.args.l), (edition c.args.l).eight, p.0, p.1, p.2, c.loop-low.invariant.order, c.loop-low.invariant.within)

pub overflow_mul-m : goal.overflow_mul-m
overflow_mul-m c =
    let p = c.requires in
    omega (arith, bytes-is (edition c.args.l), (edition c.args.l).eight, p.0, p.1, p.2, c.loop-low.invariant.order, c.loop-low.invariant.within)

pub overflow_add-l : goal.overflow_add-l
overflow_add-l c =
    let p = c.requires in
    omega (arith, bytes-is (edition c.args.l), (edition c.args.l).eight, p.0, p.1, p.2, c.loop-low.invariant.order, c.loop-low.invariant.within)

pub four-requires : goal.four-requires
four-requires c =
    let p = c.requires in
    (omega (arith, bytes-is (edition c.args.l), p.0, p.1, c.loop-low-test.true, c.loop-low.invariant.within), p.2)

-- the slot in the middle, as a word
word : (c : After-four) →
    let a = c.args in
    let m : ℕ = (c.loop-low.low + c.loop-low.high) / 2 in
    c.four.result ≡ field a.s.now (512 * a.l.least + 32 * m) 32
word c =
    let a = c.args in
    let m : ℕ = (c.loop-low.low + c.loop-low.high) / 2 in
    c.four.ensures
    ∙ field-bytes a.s.now (a.l.bytes + 4 * m) (512 * a.l.least + 32 * m) 32 (omega (arith, bytes-is (edition c.args.l)))

pub loop-low-preserved-then-four-above : goal.loop-low-preserved-then-four-above
loop-low-preserved-then-four-above c =
    let a = c.args in
    let o : ℕ = 512 * a.l.least in
    let l = c.loop-low in
    let m : ℕ = (l.low + l.high) / 2 in
    halved-low a.s.now o a.v a.n l.low l.high m l.invariant (omega (arith, c.loop-low-test.true))
    (slot-upto a.s.now (o + 32 * m) a.v c.four.result (word (goal.at.loop-low-preserved-then-four-above c).After-four)
    (omega (arith, c.if-four-above.true)))

pub loop-low-preserved : goal.loop-low-preserved
loop-low-preserved c =
    let a = c.args in
    let o : ℕ = 512 * a.l.least in
    let l = c.loop-low in
    let m : ℕ = (l.low + l.high) / 2 in
    halved-high a.s.now o a.v a.n l.low l.high m l.invariant (omega (arith, l.invariant.order))
    (omega (arith, c.loop-low-test.true))
    (slot-above a.s.now (o + 32 * m) a.v c.four.result (word (goal.at.loop-low-preserved c).After-four)
    (omega (arith, c.if-four-above.false)))

pub returns : goal.returns
returns c =
    let l = c.loop-low in
    let a = c.args in
    halved-end a.s.now (512 * a.l.least) a.v a.n l.low l.high l.invariant (omega (arith, c.loop-low-test.false))
