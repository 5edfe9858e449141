-- What rules 1 to 3 give of the bytes, for quick judging. Assumes nothing.
use Rattle.std.specs.Prelude.{ℕ, ◌+◌, ◌≤◌, ◌<◌, true, ◌≡◌, List}
use Rattle.model.specs.Basic.{in_order}
use Rattle.model.specs.Entry.{before}
use Rattle.model.specs.Layout.{page_of, read_entries, read_header}
use Rattle.notes.specs.Linked.{Linked}
use Rattle.local.specs.Local.{IsPage, count_at, level_at}

-- where a stretch is not empty: page n, `up` levels above the leaves, from the oldest version on
abbrev pub Asks : (least : ℕ) (s : List ℕ) (a b up n : ℕ) → Type 0
Asks least s a b up n = a < b → ((read_header least s).oldest ≤ a) × IsPage least s n × (level_at least s n ≡ up + 1)

pub record QuickGood (least : ℕ) (s : List ℕ) : Type 0 where
  pub linked : Linked least s
  pub low : (n : ℕ) → IsPage least s n → level_at least s n ≤ 7
  pub order : (n : ℕ) → IsPage least s n → in_order before (read_entries (page_of least s n) 128 (count_at least s n)) ≡ true
