-- Pages one after the other, behind bytes that make whole pages.
use Rattle.std.specs.Prelude.{ℕ, List, get_or}
use Rattle.model.specs.Page.{Page, free}
use Rattle.page.specs.Exact.{Valid}

-- every page can be held
abbrev pub AllValid : ℕ → List Page → Type 0
AllValid least ps = (k : ℕ) → Valid least (get_or ps k free)
