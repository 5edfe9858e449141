-- 2026-09, carry the live count: "In edition 2 .. the six zero bits right after a page's end field become the number of entries alive at
-- the last version. A killed page has 0. Soundness gains rule 8, that it is right, abandon restores it, and 01's byte statement covers it."
-- The first two sentences are here. Rule 8 is in `Judges` (Demand1); what an abandon restores (`Abandoned`) and what the page rules make
-- (`ByTheRules`, `OneForm`) is said of every byte, of these bits with them.
-- Assumes nothing.
use Rattle.std.specs.Prelude.{ℕ, false, ◌≡◌, List, length}
use Rattle.model.specs.Basic.{those}
use Rattle.model.specs.Entry.{alive, live_at}
use Rattle.model.specs.Page.{is_free}
use Rattle.model.specs.Store.{page, last}
use Rattle.model.specs.Field.{field}
use Rattle.model.specs.Layout.{page_of}
use Rattle.model.specs.Editions.{least_of}
use Rattle.promises.specs.Accepts.{Accepts, store_of}

-- a page's end field ends with bit 49
abbrev pub live_count : List ℕ → ℕ → ℕ
live_count b n = field (page_of 8 b n) 50 6

pub record LiveCount (b : List ℕ) (n : ℕ) : Type 0 where
  pub right : live_count b n ≡ length (those (live_at (last (store_of b))) (page (store_of b).pages n).entries)
  pub killed : ((page (store_of b).pages n).end ≡ alive → ⊥) → live_count b n ≡ 0

-- of any accepted bytes of edition 2 and any used page, reached or not
abbrev pub LiveCounts : Type 0
LiveCounts = (b : List ℕ) → Accepts b → least_of b ≡ 8 → (n : ℕ) → is_free (page (store_of b).pages n) ≡ false → LiveCount b n
