-- A range that judges each page it comes to: the laws of one page, and of its later routers one after the other.
use Rattle.std.specs.Prelude.{ℕ, Bool, List}
use Rattle.model.specs.Basic.{all}
use Rattle.model.specs.declared.Pair.{Pair}
use Rattle.model.specs.Walk.{between}
use Rattle.model.specs.Near.{range_right}
use Rattle.walk.specs.Live.{live}
use Rattle.walk.specs.Scan.{from}

module _ (least : ℕ) (b : List ℕ) (v hi : ℕ) where
  -- the walk below a router, whose child stands `up` levels above the leaves
  abbrev pub under : ℕ → Pair → Bool
  under up r = range_right least b v up hi r.key r.value

  -- and below those from place i of the page on
  unfoldable pub right_from : ℕ → List ℕ → ℕ → ℕ → Bool
  right_from up p n i = all (under up) (between 0 hi (live v (from p i n)))
