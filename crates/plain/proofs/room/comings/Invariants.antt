-- `comings` meets its contract: what is found, and what comes of the keys from k on, is what comes of all. Assumes nothing.
use Prim.Native.Nat.{ℕ, ◌+◌, ◌-◌, ◌≤◌}
use mathlib.Core.Path.{◌≡◌}
use mathlib.Core.List.{List}
use lib.ListN.{length}
use Rattle.model.specs.Basic.{those}
use Rattle.model.specs.declared.Delta.{Delta}
use Rattle.model.specs.Walk.{key_limit}
use Rattle.model.specs.Return.{comes}
use Rattle.plain.specs.Plain.{keys, differs}
use Rattle.plain.specs.Items.{from}
use Rattle.plain.proofs.laws.Scan.{told, saying}
use Rattle.plain.proofs.room.comings.Given as goal

abbrev pub many : List Delta → ℕ
many ds = length (those comes ds)

abbrev pub invariant-loop-k : goal.invariant-loop-k
invariant-loop-k l =
    (l.k ≤ key_limit) × (l.found ≤ l.k)
    × (many (differs l.w l.v (from l.items 0 l.n)) ≡ l.found + many (told (saying l.w l.v (from l.items 0 l.n)) l.k keys))

abbrev pub decreases-loop-k : goal.decreases-loop-k
decreases-loop-k l = key_limit - l.k
