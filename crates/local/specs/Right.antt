-- What a reading judges: the header and the slots, and one page, in the order in which the code tests them.
use Rattle.std.specs.Prelude.{ℕ, ◌≡◌, List}
use Rattle.model.specs.Store.{last}
use Rattle.model.specs.Layout.{decode}
use Rattle.local.specs.Local.{Sized}

-- the number of pages, and the last version, as they were read
pub record Known (least : ℕ) (s : List ℕ) (size top : ℕ) : Type 0 where
  pub sized : Sized least s size
  pub last : top ≡ last (decode least s)
