-- `same_settings` meets its contract: what differs of all keys is what differs of the keys left. Assumes nothing.
use Prim.Native.Nat.{◌-◌, ◌≤◌}
use mathlib.Core.Path.{◌≡◌}
use Rattle.model.specs.Walk.{key_limit}
use Rattle.plain.specs.Plain.{keys, differs}
use Rattle.plain.specs.Items.{from}
use Rattle.plain.proofs.laws.Scan.{told, saying}
use Rattle.plain.proofs.scan.same_settings.Given as goal

abbrev pub invariant-loop-k : goal.invariant-loop-k
invariant-loop-k l = (l.k ≤ key_limit) × (differs l.u l.v (from l.items 0 l.n) ≡ told (saying l.u l.v (from l.items 0 l.n)) l.k keys)

abbrev pub decreases-loop-k : goal.decreases-loop-k
decreases-loop-k l = key_limit - l.k
