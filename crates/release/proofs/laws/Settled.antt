-- Laws about release/specs/Settled. Assumes nothing.
use Prim.Native.Nat.{ℕ, ◌-◌}
use mathlib.Core.Bool.{Bool}
use lib.ListN.{length}
use Rattle.model.specs.Basic.{all, count}
use Rattle.model.specs.Store.{Store, page}
use Rattle.release.specs.Settled.{leaf_settled}

-- and of each page from n on
abbrev pub settled_from : Store → ℕ → Bool
settled_from s n = all (λ (m : ℕ). leaf_settled s (page s.pages m)) (count n (length s.pages - n))
