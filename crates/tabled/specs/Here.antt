-- What a range has at a page of a walk that is right: the page as it was read, the page below the last router at or below its key, and
-- those below the later ones.
use Rattle.std.specs.Prelude.{ℕ, ◌^◌, ◌≤◌, List, length}
use Rattle.model.specs.declared.Limits.{Limits}
use Rattle.model.specs.Limits.{Edition}
use Rattle.model.specs.Layout.{size_of}
use Rattle.local.specs.Local.{Sized}

-- bytes in which a walk that is right can be walked
pub record Reads (l : Limits) (b : List ℕ) : Type 0 where
  pub edition : Edition l
  pub sized : Sized l.least b (size_of l.least b)
  pub few : length b ≤ 2 ^ 40
