-- Rule 7 of bytes, as the code tests it.
use Rattle.std.specs.Prelude.{ℕ, Bool, ◌&&◌, ◌||◌, not, eqb}
use Rattle.model.specs.Basic.{all}
use Rattle.model.specs.declared.Entry.{Entry}
use Rattle.model.specs.Entry.{alive}
use Rattle.model.specs.Page.{Page, is_free}

abbrev pub is_young : ℕ → Entry → Bool
is_young w e = eqb e.start w && eqb e.end alive

-- a page, unless it is free
unfoldable pub young_ok : ℕ → Page → Bool
young_ok w p = is_free p || (not (eqb p.start w) || all (is_young w) p.entries)
