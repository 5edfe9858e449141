-- The next one's low key, one entry at a time for a loop. In an empty stretch nothing is asked.
use Rattle.std.specs.Prelude.{ℕ, min, max, Bool, true, false, List, Option, Some, None}
use Rattle.model.specs.declared.Entry.{Entry}
use Rattle.model.specs.Page.{Page}
use Rattle.spans.specs.Quick.{meets, past_all, under}
use Rattle.quick.specs.declared.under.Way.{Way}

-- where entry e is the last one alive, those behind it being es: its key, and the stretch for which its page is asked
abbrev pub way_if : (alive : Bool) (a b : ℕ) (e : Entry) (es : List Entry) → Option Way
way_if true a b e es =
    Some (record { key = e.key; from = min (min b e.end) (past_all (max a e.start) es); upto = min b e.end; page = e.value })
way_if false a b e es = None

abbrev pub way_of : (a b : ℕ) (e : Entry) (es : List Entry) → Option Way
way_of a b e es = way_if (meets a b e) a b e es

-- what is asked of page m, `up` levels above the leaves, by a key and a stretch
abbrev pub under_page : (up : ℕ) (ps : List Page) (m h a b : ℕ) → Bool
under_page up ps m h a b = under up ps h a b m
