-- What a range finds below each router, in one number for each place of a page: that of the routers from there on. A table of these
-- numbers is known page by page, from level 2 up.
use Rattle.std.specs.Prelude.{ℕ, ◌&&◌, List, leb, length}
use Rattle.model.specs.Basic.{pick}
use Rattle.model.specs.declared.Entry.{Entry}
use Rattle.model.specs.Entry.{live_at}
use Rattle.model.specs.Page.{Page}
use Rattle.model.specs.Walk.{range_below}
use Rattle.model.specs.Layout.{decode}
use Rattle.model.specs.Near.{range_right}
use Rattle.walk.specs.Below.{later}
use Rattle.tabled.specs.Across.{right_from}
use Rattle.tabled.specs.Told.{told}

module _ (least : ℕ) (b : List ℕ) (v lo hi : ℕ) where
  abbrev ps : List Page
  ps = (decode least b).pages

  -- the walk of a range from page n, `up` levels above the leaves, which is to cover the key `at`
  unfoldable pub found : (up at n : ℕ) → ℕ
  found up at n = told (range_right least b v up hi at n) (length (range_below up ps v lo hi at n))

  -- and those below the routers from place i of a page on
  unfoldable pub behind : ℕ → List ℕ → ℕ → ℕ → ℕ
  behind up p n i = told (right_from least b v hi up p n i) (length (later up ps v lo hi p n i))

  -- that below one router; 1 for one that a range does not follow
  unfoldable pub turn : ℕ → Entry → ℕ
  turn up e = pick (live_at v e && leb e.key hi) (found up e.key e.value) 1
