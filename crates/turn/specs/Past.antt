-- A page that ended before the open version, and a free one: an abandon leaves them as they are, whatever their entries are.
-- Assumes nothing.
use Rattle.std.specs.Prelude.{ℕ, ◌*◌, ◌%◌, ◌≡◌, List, leb}
use Rattle.model.specs.Basic.{pick}
use Rattle.model.specs.Entry.{alive}
use Rattle.model.specs.Page.{Page}
use Rattle.model.specs.Store.{page}
use Rattle.model.specs.Calls.{back}

-- a page that is not alive, and did not end at w
pub record Past (w : ℕ) (p : Page) : Type 0 where
  pub stays : (p.end ≡ alive → ⊥) → (p.end ≡ w → ⊥) → back w p ≡ p

pub record AllPast (w : ℕ) (ps : List Page) : Type 0 where
  pub at : (n : ℕ) → Past w (page ps n)

-- the least that the 32 bits from bit 32 of a page on can be where its end is w: they begin with the last of its end
abbrev pub low_end : ℕ → ℕ → ℕ
low_end least w = pick (leb least 4) (w % 131072 * 32768) (w % 262144 * 16384)
