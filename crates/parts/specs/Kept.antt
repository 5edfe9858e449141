-- Bytes that are a store's, with nothing beside it: what holds before and after every step of an update.
use Rattle.std.specs.Prelude.{ℕ, ◌<◌, ◌≤◌, ◌≡◌, List, length}
use Rattle.model.specs.declared.Limits.{Limits}
use Rattle.model.specs.Limits.{Edition}
use Rattle.model.specs.Page.{Page}
use Rattle.model.specs.Layout.{encode, decode}
use Rattle.store.specs.Holds.{Holds}

-- the pages of the store
abbrev pub pages_of : Limits → List ℕ → List Page
pages_of l b = (decode l.least b).pages

pub record ExactBytes (l : Limits) (b : List ℕ) : Type 0 where
  pub edition : Edition l
  pub holds : Holds l.least (decode l.least b)
  pub same : encode l.least (decode l.least b) ≡ b
  pub most : length (pages_of l b) ≤ 4096

-- n is the number of a page behind header and directory
pub record Inside (l : Limits) (b : List ℕ) (n : ℕ) : Type 0 where
  pub low : 5 ≤ n
  pub high : n < length (pages_of l b)
