-- A store in its bytes whose pages change, one after the other.
use Rattle.std.specs.Prelude.{ℕ, ◌≡◌, List, length}
use Rattle.model.specs.declared.Limits.{Limits}
use Rattle.model.specs.Page.{Page}
use Rattle.model.specs.Layout.{encode, decode}
use Rattle.store.specs.Holds.{Holds}
use Rattle.store.specs.Set.{with_pages}
use Rattle.parts.specs.Kept.{pages_of}

-- b became b': the same store with these pages
pub record Becomes (l : Limits) (b b' : List ℕ) (ps : List Page) : Type 0 where
  pub is : b' ≡ encode l.least (with_pages (decode l.least b) ps)
  pub holds : Holds l.least (with_pages (decode l.least b) ps)
  pub long : length ps ≡ length (pages_of l b)
