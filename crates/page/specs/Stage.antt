-- A page whose entries are written over one after the other, from the front: the stages of every writer of a page.
use Rattle.std.specs.Prelude.{ℕ, zero, suc, ◌+◌, ◌*◌, List, ◌++◌}
use Rattle.model.specs.declared.Entry.{Entry}
use Rattle.model.specs.Field.{lay}
use Rattle.model.specs.Layout.{entry_parts, read_entries, unused, padded, count_of, live_of}
use Rattle.page.specs.Head.{read_head, front_bytes}
use Rattle.page.specs.Over.{over}
use Rattle.page.specs.Exact.{body_bytes}

-- the entries of a page that are in use
abbrev pub entries_in : ℕ → List ℕ → List Entry
entries_in least p = read_entries p 128 (count_of least p)

-- a page whose first entries are these, its front, its live count and its other entries as they were
unfoldable pub staged : ℕ → List ℕ → List Entry → List ℕ
staged least p out = front_bytes least (read_head least p) (live_of least p) ++ body_bytes least (over out (padded least (entries_in least p)))

-- so many entries from j on made unused
unfoldable pub blanked : List ℕ → ℕ → ℕ → List ℕ
blanked s j zero = s
blanked s j (suc n) = lay (blanked s j n) (128 + 96 * (j + n)) (entry_parts unused)
