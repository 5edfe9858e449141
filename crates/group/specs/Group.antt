-- What the values of a level stand for: a place among routers, routers, a group.
use Rattle.std.specs.Prelude.{ℕ, ◌*◌, ◌<◌, ◌≤◌, ◌≡◌, List, ◌∷◌, Some, option_to_list}
use Rattle.model.specs.declared.Pair.{Pair}
use Rattle.model.specs.declared.Limits.{Limits}
use Rattle.model.specs.Walk as walk
use Rattle.model.specs.Rules as rules
use Rattle.model.specs.Refusals.{found_in}
use Rattle.edit.specs.Change.{first_pairs}
use Rattle.edit.specs.Fill.{Fitting}
use Rattle.gather.specs.Gather.{Good, pairs_in}
use Rattle.parts.specs.Kept.{Inside}
use Rattle.group.specs.declared.Around.{Around}
use Rattle.group.specs.declared.Routers.{Routers}
use Rattle.group.specs.declared.Group.{Group}

unfoldable pub around_of : Around → walk.Around
around_of a = record { left = found_in a.left; own = a.own; right = found_in a.right }

unfoldable pub routers_of : Routers → List Pair
routers_of r = r.first ∷ option_to_list r.second

unfoldable pub group_of : Group → rules.Group
group_of g = record { routers = routers_of g.routers; pairs = pairs_in g.all }

-- "takes one for each page now used": the routers to the pages `first` and `second`
abbrev pub routers_now : (l : Limits) (g : Group) (first second : ℕ) → List Pair
routers_now l g first second = rules.routers_to (routers_of g.routers) (rules.parts l.least (pairs_in g.all)) first second

-- the keys and the page numbers of routers fit a page's entries
pub record RoutersFit (r : Routers) : Type 0 where
  pub first : Fitting r.first
  pub second : (x : Pair) → r.second ≡ Some x → Fitting x

-- the first n of x and y are the routers of r that are not among those of q
pub record Apart (r q : Routers) (n : ℕ) (x y : Pair) : Type 0 where
  pub few : n ≤ 2
  pub are : first_pairs n x y ≡ rules.without (routers_of r) (routers_of q)
  pub fit : RoutersFit r → Fitting x × Fitting y

-- ---- they lead to pages of the store

pub record Router (l : Limits) (b : List ℕ) (x : Pair) : Type 0 where
  pub inside : Inside l b x.value
  pub fits : Fitting x

pub record Placed (l : Limits) (b : List ℕ) (a : Around) : Type 0 where
  pub own : Router l b a.own
  pub left : (x : Pair) → a.left ≡ Some x → Router l b x
  pub right : (x : Pair) → a.right ≡ Some x → Router l b x

pub record Routed (l : Limits) (b : List ℕ) (r : Routers) : Type 0 where
  pub first : Router l b r.first
  pub second : (x : Pair) → r.second ≡ Some x → Router l b x

pub record Grouped (l : Limits) (b : List ℕ) (g : Group) : Type 0 where
  pub routed : Routed l b g.routers
  pub good : Good g.all
  pub few : g.all.n < 7 * l.least
