-- `next_change` meets its contract: nothing of the pages before n starts or ends behind v and before q. Assumes nothing.
use Prim.Native.Nat.{ℕ, ◌≤◌, ◌<◌}
use Rattle.model.specs.Layout.{page_of, read_header}
use Rattle.model.specs.Inner.{Out}
use Rattle.local.specs.Local.{slot_at}
use Rattle.notes.specs.Ready.{BehindUpto}
use Rattle.reach.specs.Versions.{QuietPart}
use Rattle.convert.proofs.skip.next_change.Given as goal

abbrev pub invariant-loop-n : goal.invariant-loop-n
invariant-loop-n l = (5 ≤ l.n) × (l.n ≤ l.size) × BehindUpto l.v l.r l.q × ((i : ℕ) → i < (read_header l.k.least l.s).roots → Out l.v l.q (slot_at l.k.least l.s i).version)
    × ((m : ℕ) → 5 ≤ m → m < l.n → QuietPart l.k.least (page_of l.k.least l.s m) l.v l.q)
