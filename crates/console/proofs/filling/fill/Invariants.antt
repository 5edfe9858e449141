-- Line by line, what is to be written for the piece is what stands in the buffer and what is left for the rest of it. Assumes nothing.
use Prim.Native.Nat.{◌*◌, ◌-◌, ◌≤◌}
use mathlib.Core.Path.{◌≡◌}
use lib.ListN.{length}
use Rattle.console.specs.Obeys.{store_in, PieceUpto}
use Rattle.console.proofs.filling.fill.Given as goal

abbrev pub invariant-loop-used : goal.invariant-loop-used
invariant-loop-used l = (length l.bytes ≡ length l.initial.bytes) × (length l.list ≡ length l.initial.list) × (length l.out ≡ length l.initial.out) × (l.len ≤ 110462 * l.used)
    × PieceUpto l.initial.h (store_in l.initial.bytes l.initial.p) l.piece l.bytes l.out (record { held = l.h; pages = l.p; used = l.used; len = l.len })

abbrev pub decreases-loop-used : goal.decreases-loop-used
decreases-loop-used l = length l.piece - l.used
