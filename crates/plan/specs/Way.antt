-- The way down to a leaf, place by place.
use Rattle.std.specs.Prelude.{ℕ, ◌-◌, ◌≡◌, Bool, true, false, List, leb, ltb, length, get_or, Some}
use Rattle.std.proofs.Math.Option.{Option, none, some}
use Rattle.model.specs.declared.Pair.{Pair}
use Rattle.model.specs.Walk as walk
use Rattle.edit.specs.Fill.{nil, Fitting}
use Rattle.model.specs.declared.Limits.{Limits}
use Rattle.model.specs.Layout.{decode}
use Rattle.model.specs.Inner.{In}
use Rattle.group.specs.declared.Around.{Around}
use Rattle.plan.specs.declared.Way.{Way}
use Rattle.plan.specs.Plan.{ups_of, Led}

-- ---- a place among routers

-- a neighbour, unless the place is the outermost on that side
abbrev pub beside : Bool → Pair → Option Pair
beside true x = none
beside false x = some x

-- that of the i-th, from 1 on, with its neighbours
unfoldable pub place_at : List Pair → ℕ → walk.Around
place_at xs i =
    record { left = beside (ltb i 2) (get_or xs (i - 2) nil); own = get_or xs (i - 1) nil; right = beside (leb (length xs) i) (get_or xs i nil) }

-- its routers are of those
pub record Among (xs : List Pair) (a : Around) : Type 0 where
  pub own : In a.own xs × Fitting a.own
  pub left : (x : Pair) → a.left ≡ Some x → In x xs × Fitting x
  pub right : (x : Pair) → a.right ≡ Some x → In x xs × Fitting x

-- ---- the way

-- way is the one to the leaf for key k at version w
pub record Leads (l : Limits) (b : List ℕ) (w k : ℕ) (way : Way) : Type 0 where
  pub led : Led l b way
  pub root : way.root ≡ walk.root_at (decode l.least b).slots w
  pub ups : ups_of way.list way.n ≡ walk.way (decode l.least b) w k
