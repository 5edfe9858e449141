-- `prune_pages` meets its contract. Assumes nothing.
use Prim.Native.Nat.{◌≤◌}
use mathlib.Core.Path.{◌≡◌}
use lib.ListN.{length}
use Rattle.model.specs.Layout.{decode}
use Rattle.model.specs.Calls.{pruned_page}
use Rattle.turn.proofs.laws.Rewritten.{Rewritten}
use Rattle.prune.proofs.prune_pages.Given as goal

abbrev pub invariant-loop-n : goal.invariant-loop-n
invariant-loop-n l = (5 ≤ l.n) × (l.n ≤ l.size) × (length l.s ≡ length l.initial.s) × Rewritten l.l.least (pruned_page l.v) (decode l.l.least l.initial.s) l.n l.s
