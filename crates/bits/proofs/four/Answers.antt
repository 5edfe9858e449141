-- `bits::four` meets its contract: a word of four bytes fits. Assumes nothing.
use Prim.Native.Nat.{◌*◌}
use native.Mathlib.Omega.{arith}
use Rattle.bits.proofs.laws.Laws.{field_lt}
use Rattle.bits.proofs.four.Goals as goal

pub overflow_cast-result : goal.overflow_cast-result
overflow_cast-result c =
    let a = c.args in
    omega (arith, c.word.ensures, field_lt a.s.now (8 * a.first) 32)
