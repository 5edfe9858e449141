-- The bytes from `from` to `end` are digits, and `value` is their number. Assumes nothing.
use Rattle.std.proofs.Common.{◌≡◌, ℕ, ◌+◌, ◌%◌, List, get_or, arith}
use Rattle.lines.proofs.LineParts.{none_yet, fits-yet, one_more}
use Rattle.lines.proofs.once.digits_at.Goals as goal

pub loop-end-init : goal.loop-end-init
loop-end-init c = none_yet c.args.s.now c.args.from

pub returns-then-d-gt9 : goal.returns-then-d-gt9
returns-then-d-gt9 c = c.loop-end.invariant.run

pub overflow_mul-value : goal.overflow_mul-value
overflow_mul-value c =
    let l = c.loop-end in
    omega (arith, fits-yet c.args.s.now c.args.from l.value l.end l.invariant)

pub overflow_add-value : goal.overflow_add-value
overflow_add-value c =
    let l = c.loop-end in
    omega (arith, fits-yet c.args.s.now c.args.from l.value l.end l.invariant)

pub loop-end-preserved : goal.loop-end-preserved
loop-end-preserved c =
    let s : List ℕ = c.args.s.now in
    let l = c.loop-end in
    let d : ℕ = (c.from-d.result + 18446744073709551568) % 18446744073709551616 in
    let e : get_or s l.end 0 ≡ 48 + d = omega (arith, c.from-d.ensures, c.type_inv.s l.end) in
    one_more s c.args.from l.value l.end l.invariant d (omega arith) (omega arith) (omega arith) e

pub returns : goal.returns
returns c =
    let last : c.loop-end.end ≡ c.args.from + 10 = omega arith in
    rw last at c.loop-end.invariant.run
