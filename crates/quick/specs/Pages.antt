-- A page in itself, by its part p and its front h.
use Rattle.std.specs.Prelude.{ℕ, Bool, not, ◌&&◌, ◌||◌, List, eqb}
use Rattle.model.specs.Basic.{in_order}
use Rattle.model.specs.Page.{Page, is_free}
use Rattle.spans.specs.Quick.{kept, apart, children_fine}

abbrev pub own_fine : ℕ → ℕ → List Page → Page → Bool
own_fine least old ps p = is_free p || (in_order apart (kept old p.entries) && children_fine least old ps p.level (kept old p.entries))

-- a page of level k
abbrev pub at_level : (k least old : ℕ) (ps : List Page) (p : Page) → Bool
at_level k least old ps p = not (eqb p.level k) || own_fine least old ps p
