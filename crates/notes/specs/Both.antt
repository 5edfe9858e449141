-- Rules 4 and 5 together, over the versions of a stretch and by the slots.
use Rattle.std.specs.Prelude.{ℕ, ◌-◌, Bool, ◌&&◌, List}
use Rattle.model.specs.Basic.{all, count}
use Rattle.model.specs.Page.{Page}
use Rattle.notes.specs.Pass.{keys_on, full_on}

-- ---- the versions from v up to, not including, c, which have one root

module _ (least up : ℕ) (ps : List Page) (root : ℕ) where
  unfoldable pub both_on : ℕ → ℕ → Bool
  both_on v c = all (keys_on least up ps root) (count v (c - v)) && all (full_on least up ps root) (count v (c - v))
