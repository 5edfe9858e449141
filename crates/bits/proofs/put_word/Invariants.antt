-- `bits::put_word` meets its contract: after i turns the first i bytes of the number stand there. Assumes nothing.
use Prim.Native.Nat.{◌-◌, ◌^◌, ◌/◌, ◌*◌}
use mathlib.Core.Path.{◌≡◌}
use Rattle.model.specs.Field.{put_field}
use Rattle.bits.proofs.put_word.Given as goal

abbrev pub invariant-loop-i : goal.invariant-loop-i
invariant-loop-i l = l.s ≡ put_field l.initial.s (8 * l.first) (8 * l.i) (l.v / 2 ^ (8 * (l.n - l.i)))
