-- An entry put into a page at a place: those behind it move up by one.
use Rattle.std.specs.Prelude.{ℕ, List, [], ◌∷◌, ◌++◌, length, take, drop}
use Rattle.model.specs.declared.Entry.{Entry}
use Rattle.model.specs.Page.{Page}
use Rattle.model.specs.Basic.{those}
use Rattle.model.specs.Layout.{lives}

unfoldable pub insert_at : ℕ → Entry → List Entry → List Entry
insert_at i e l = take i l ++ e ∷ drop i l

unfoldable pub with_entry : ℕ → Entry → Page → Page
with_entry i e p = record { level = p.level; start = p.start; end = p.end; entries = insert_at i e p.entries }

-- ---- the live count of a page with one entry more

-- of one entry: 1 if it lives, else 0
abbrev pub live_one : Entry → ℕ
live_one e = length (those lives (e ∷ []))
