-- The routers of a page, as the code holds them.
use Rattle.std.specs.Prelude.{ℕ, max, Bool, ◌&&◌, ◌||◌, List, leb}
use Rattle.model.specs.declared.Entry.{Entry}
use Rattle.model.specs.Page.{Page}
use Rattle.model.specs.Store.{page}
use Rattle.model.specs.Layout.{page_of, read_entries}
use Rattle.spans.specs.Quick.{fine_over, nexts}
use Rattle.local.specs.Local.{count_at}
use Rattle.quick.specs.Under.{under_page}

-- the router e from version a on, and those behind it
abbrev pub router_from : ℕ → ℕ → List Page → ℕ → Entry → List Entry → Bool
router_from least up ps a e es = fine_over least e.key a e.end (page ps e.value) && nexts (under_page up ps e.value) a e.end es

-- from the oldest version on; of one that ended by then nothing is asked
abbrev pub router_fine : (least old up : ℕ) (ps : List Page) (e : Entry) (es : List Entry) → Bool
router_fine least old up ps e es = leb e.end old || router_from least up ps (max old e.start) e es

-- the entries of page n
abbrev pub entries_at : ℕ → List ℕ → ℕ → List Entry
entries_at least s n = read_entries (page_of least s n) 128 (count_at least s n)
