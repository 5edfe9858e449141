-- A range's routers by the table: those below which it finds nothing are passed over.
use Rattle.std.specs.Prelude.{ℕ, suc, ◌+◌, ◌*◌, ◌≤◌, ◌<◌, true, ◌≡◌, List, ◌∷◌, length}
use Rattle.model.specs.Entry.{pair_of}
use Rattle.model.specs.Page.{Page}
use Rattle.model.specs.Walk.{between}
use Rattle.model.specs.Layout.{page_of, decode}
use Rattle.local.specs.Local.{count_at}
use Rattle.model.specs.Near.{page_right}
use Rattle.walk.specs.Live.{live}
use Rattle.walk.specs.Scan.{entry, from}
use Rattle.walk.specs.Below.{later}
use Rattle.model.specs.declared.Limits.{Limits}
use Rattle.tabled.specs.Here.{Reads}
use Rattle.tabled.specs.Across.{right_from}
use Rattle.tabled.specs.Cells.{Row}

-- page n is right, its children stand `up` levels above the leaves, and the table has its numbers
pub record Turns (l : Limits) (b : List ℕ) (v lo hi up n : ℕ) (t : List ℕ) : Type 0 where
  pub reads : Reads l b
  pub right : page_right l.least b (suc (suc up)) n ≡ true
  pub long : 4096 * (5 * l.least + 1) ≤ length t
  pub row : Row l.least b v lo hi up n 0 t

module _ (least : ℕ) (b : List ℕ) (v lo hi up n : ℕ) where
  abbrev ps : List Page
  ps = (decode least b).pages

  abbrev p : List ℕ
  p = page_of least b n

  abbrev m : ℕ
  m = count_at least b n

  -- r is the place of the next router, from i on, below which something may be found; or the count
  pub record Skips (i r : ℕ) : Type 0 where
    pub after : i ≤ r
    pub within : r ≤ m
    pub same : later up ps v lo hi p m i ≡ later up ps v lo hi p m r
    pub right : right_from least b v hi up p m r ≡ true
    pub here : r < m → between 0 hi (live v (from p r m)) ≡ pair_of (entry p r) ∷ between 0 hi (live v (from p (r + 1) m))
