-- `page::slip_in` meets its contract: before each turn those from k on have moved up by one. Assumes nothing.
use Prim.Native.Nat.{◌≤◌}
use mathlib.Core.Path.{◌≡◌}
use lib.ListN.{get_or}
use Rattle.model.specs.Layout.{unused}
use Rattle.page.specs.Insert.{insert_at}
use Rattle.page.specs.Stage.{staged, entries_in}
use Rattle.page.proofs.slip_in.Given as goal

abbrev pub invariant-loop-k : goal.invariant-loop-k
invariant-loop-k l =
    (l.i ≤ l.k)
    × (l.page ≡ staged l.l.least l.initial.page
    (insert_at l.k (get_or (entries_in l.l.least l.initial.page) l.k unused) (entries_in l.l.least l.initial.page)))
