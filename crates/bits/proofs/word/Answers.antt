-- `bits::word` meets its contract: after i turns r is the field of the first i bytes. Assumes nothing.
use Prim.Native.Nat.{ℕ, ◌≤◌, ◌^◌, ◌+◌, ◌*◌}
use mathlib.Core.Path.{◌≡◌}
use native.Mathlib.Omega.{arith}
use lib.Pow.{pow_mono}
use lib.ListN.{get_or}
use Rattle.model.specs.Field.{field as field_of}
use Rattle.bits.proofs.laws.Laws.{field_lt, field-more-byte}
use borrow.Author.Rules.{rules}
use Rattle.bits.proofs.word.Goals as goal
use Rattle.bits.proofs.word.Goals.{In-loop-i}
use Rattle.bits.proofs.word.Goals.{After-loop-i}

pub loop-i-init : goal.loop-i-init
unfolding field_of
loop-i-init c = omega arith

bound : (n : ℕ) → n ≤ 40 → 2 ^ n ≤ 2 ^ 40
bound n h = pow_mono h

pub overflow_mul-r : goal.overflow_mul-r
overflow_mul-r c =
    let l = c.loop-i in let a = c.args in
    omega (arith, field_lt a.s.now (8 * a.first) (8 * l.i), bound (8 * l.i) (omega arith))

-- the next word
step : (c : In-loop-i) →
    let l = c.loop-i in let a = c.args in
    l.r * 256 + get_or a.s.now (a.first + l.i) 0 ≡ field_of a.s.now (8 * a.first) (8 * (l.i + 1))
step c =
    let l = c.loop-i in let a = c.args in
    rw l.invariant (field-more-byte a.s.now a.first l.i (search rules))

pub overflow_add-r-in-loop-i : goal.overflow_add-r-in-loop-i
overflow_add-r-in-loop-i c =
    let l = c.loop-i in let a = c.args in
    omega (arith, step (goal.at.overflow_add-r-in-loop-i c).In-loop-i, field_lt a.s.now (8 * a.first) (8 * (l.i + 1)), bound (8 * (l.i + 1)) (omega arith))

pub loop-i-preserved : goal.loop-i-preserved
loop-i-preserved c = step (goal.at.loop-i-preserved c).In-loop-i

pub returns : goal.returns
returns c =
    let e : c.loop-i.i ≡ c.args.n = omega arith in
    rw e at c.loop-i.invariant
