-- `bits::word` meets its contract: after i turns r is the field of the first i bytes. Assumes nothing.
use Prim.Native.Nat.{◌*◌}
use mathlib.Core.Path.{◌≡◌}
use Rattle.model.specs.Field.{field as field_of}
use Rattle.bits.proofs.word.Given as goal

abbrev pub invariant-loop-i : goal.invariant-loop-i
invariant-loop-i l = l.r ≡ field_of l.s (8 * l.first) (8 * l.i)
