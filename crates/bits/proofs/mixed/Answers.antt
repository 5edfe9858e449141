-- `bits::mixed` meets its contract: nothing outgrows 48 bits. Assumes nothing.
use Prim.Native.Nat.{◌<◌, ◌≤◌, ◌^◌, ◌+◌, ◌*◌, ◌/◌}
use native.Mathlib.Omega.{arith}
use native.Mathlib.Nat.{div-le_self, div-mul-le_self, mul-le-mul_left}
use lib.Pow.{pow_mono, pow_pos}
use Rattle.std.proofs.lemmas.Nat.{one_shl}
use Rattle.bits.proofs.mixed.Goals as goal

-- the product at which the result is largest
shifted : (c : goal.Start) → let a = c.args in let q = 2 ^ a.spare in let p = 2 ^ a.width in
    (a.w / q / p * p + a.v) * q < 2 ^ 48
shifted c =
    let a = c.args in let q = 2 ^ a.spare in let p = 2 ^ a.width in
    omega (
      arith,
      div-le_self a.w q,
      div-mul-le_self (a.w / q) p,
      pow_mono {i = a.width} {j = 32} c.requires.1,
      mul-le-mul_left (a.w / q / p * p + a.v) (pow_mono {i = a.spare} {j = 7} (omega (arith, c.requires.2))),
    )

pub overflow_mul-result-2 : goal.overflow_mul-result-2
overflow_mul-result-2 c =
    rw (one_shl c.args.spare 64 (omega arith), one_shl c.args.width 64 (omega arith)) (omega (arith, shifted c))

pub overflow_add-result-2 : goal.overflow_add-result-2
overflow_add-result-2 c =
    let small : 2 ^ c.args.spare ≤ 128 = pow_mono {i = c.args.spare} {j = 7} (omega arith) in
    rw (one_shl c.args.spare 64 (omega arith), one_shl c.args.width 64 (omega arith)) (omega (arith, shifted c, pow_pos c.args.spare))

pub returns : goal.returns
returns c = rw (one_shl c.args.spare 64 (omega arith), one_shl c.args.width 64 (omega arith))
