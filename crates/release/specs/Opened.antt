-- Bytes of a sound store with an update open, and what its leaves' bytes say.
use Rattle.std.specs.Prelude.{ℕ, true, ◌≡◌, List}
use Rattle.model.specs.declared.Limits.{Limits}
use Rattle.model.specs.Limits.{Edition}
use Rattle.model.specs.Layout.{decode}
use Rattle.model.specs.Judged.{is_sound}

pub record Opened (l : Limits) (b : List ℕ) (c : ℕ) : Type 0 where
  pub edition : Edition l
  pub sound : is_sound l.least b ≡ true
  pub opened : (decode l.least b).opened ≡ true
  pub current : (decode l.least b).current ≡ c
