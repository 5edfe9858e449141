-- What differs between two leaves in a stretch of keys, and that it is what differs between their versions there.
use Rattle.std.specs.Prelude.{ℕ, List}
use Rattle.model.specs.declared.Pair.{Pair}
use Rattle.model.specs.declared.Delta.{Delta}
use Rattle.model.specs.declared.Limits.{Limits}
use Rattle.model.specs.Page.{pairs_at}
use Rattle.model.specs.Store.{page}
use Rattle.model.specs.Walk.{between}
use Rattle.model.specs.Layout.{decode}
use Rattle.model.specs.Differ.{differ}
use Rattle.cursor.specs.declared.Under.{Under}
use Rattle.differ.specs.declared.leaves.Ask.{Ask}
use Rattle.differ.specs.Side.{rest}

-- of the leaves p and q as they were read
abbrev pub asked : List ℕ → ℕ → List ℕ → ℕ → Ask → List Delta
asked p m q n a = differ (rest p m a.old a.low a.high 0) (rest q n a.new a.low a.high 0)

-- the stretch of a leaf at a version
abbrev pub in_leaf : (l : Limits) (b : List ℕ) (v lo hi : ℕ) (x : Under) → List Pair
in_leaf l b v lo hi x = between lo hi (pairs_at v (page (decode l.least b).pages x.page))

abbrev pub in_leaves : Limits → List ℕ → Ask → Under → Under → List Delta
in_leaves l b a x y = differ (in_leaf l b a.old a.low a.high x) (in_leaf l b a.new a.low a.high y)
