-- Request 2026-13, "old readings by the same pages": the call that tells "the page numbers that a lookup visits, in order".
-- Assumes nothing.
use Rattle.std.specs.Prelude.{ℕ, List, [], ◌∷◌, leb}
use Rattle.model.specs.Store.{Store}
use Rattle.model.specs.Walk.{key_limit, lookup_visits}
use Rattle.model.specs.Calls.{rule, first_of, unreadable, Ranged}
use Rattle.model.specs.Told.{told_by}

-- a page visited is told by one number, its own
abbrev pub page_number : ℕ → List ℕ
page_number n = n ∷ []

-- It is refused as the lookup is, 5 "key too large", 6 "version above last" or below the oldest; then 14, where the caller's list holds
-- fewer numbers than pages are visited. room: how many numbers it holds.
unfoldable pub visits : (s : Store) (k v room : ℕ) → Ranged
visits s k v room = told_by page_number 1 (first_of (rule 5 (leb key_limit k) ∷ rule 6 (unreadable s v) ∷ [])) room (lookup_visits s k v)
