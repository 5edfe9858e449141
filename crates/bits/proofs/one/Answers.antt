-- `bits::one` meets its contract: a byte is the field of its eight bits. Assumes nothing.
use mathlib.Core.Path.{sym}
use native.Mathlib.Omega.{arith}
use Rattle.bits.proofs.laws.Laws.{field-byte}
use Rattle.bits.proofs.one.Goals as goal

pub overflow_cast-result : goal.overflow_cast-result
overflow_cast-result c = omega (arith, c.type_inv.s c.args.first)

pub returns : goal.returns
returns c = let a = c.args in sym (field-byte a.s.now a.first (omega (arith, c.type_inv.s a.first)))
