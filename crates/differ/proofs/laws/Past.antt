-- A stretch of keys that lies in one leaf of each of two versions, up to where the first of the two leaves ends.
-- Assumes nothing.
use Prim.Native.Nat.{ℕ, ◌+◌, ◌-◌, ◌≤◌, ◌<◌}
use native.Mathlib.Omega.{arith}
use mathlib.Core.Bool.{Bool}
use mathlib.Core.Path.{◌≡◌, ap, ◌∙◌}
use mathlib.Core.List.{List, [], ◌++◌}
use Prim.Native.Nat.{min}
use Rattle.model.specs.declared.Delta.{Delta}
use Rattle.model.specs.declared.Limits.{Limits}
use Rattle.model.specs.Walk.{key_limit}
use Rattle.walk.specs.Sure.{Walkable}
use Rattle.cursor.specs.declared.Under.{Under}
use Rattle.cursor.specs.Leaf.{Below}
use Rattle.differ.specs.declared.leaves.Ask.{Ask}
use Rattle.differ.specs.Listing.{left_of}
use Rattle.differ.specs.Leaves.{in_leaves}
use Rattle.differ.proofs.laws.Leaves.{stretch-on}

module _ {l : Limits} {b : List ℕ} {u v : ℕ} (r : Walkable l b u) (q : Walkable l b v) (key : ℕ) (x y : Under) (g : Below l b u 0 key x)
    (f : Below l b v 0 key y)
    (high : ℕ) (e : high ≡ min x.high y.high) where
  -- the lower of two ends is behind the key
  lower : (high ≤ x.high) × (high ≤ y.high) × (key < high)
  lower = (omega (arith, e), omega (arith, e), omega (arith, e, g.below, f.below))

  pub high-low : key < high
  high-low = lower.2

  pub high-top : high ≤ key_limit
  high-top = omega (arith, lower.0, g.top)

  module _ (w : Bool) where
    abbrev ask : Ask
    ask = record { old = u; new = v; low = key; high = high - 1; write = w }

    pub stretch-to : left_of l b u v key ≡ in_leaves l b
        (record { old = u; new = v; low = key; high = high - 1; write = w }) x y ++ left_of l b u v high
    stretch-to =
        let one : high - 1 + 1 ≡ high = omega (arith, high-low) in
        stretch-on ask r q x y g f (omega (arith, high-low)) (omega (arith, high-low, lower.0)) (omega (arith, high-low, lower.1))
        ∙ ap (λ (k : ℕ). in_leaves l b ask x y ++ left_of l b u v k) one

    -- where the two leaves show the same
    pub past-on : in_leaves l b (record { old = u; new = v; low = key; high = high - 1; write = w }) x y ≡ []
        → left_of l b u v key ≡ left_of l b u v high
    past-on z = stretch-to ∙ ap (λ (ds : List Delta). ds ++ left_of l b u v high) z
