-- Two sound stores, written out: the premises that proofs take can be met.
-- Assumes nothing.
use Rattle.std.specs.Prelude.{ℕ, true, List, [], ◌∷◌, ◌++◌, map, replicate}
use Rattle.model.specs.Entry.{alive}
use Rattle.model.specs.Page.{free}
use Rattle.model.specs.Store.{Store, fresh}
use Rattle.model.specs.Calls.{Ranged}
use Rattle.model.specs.Visited.{visits}
use Rattle.model.specs.State.{state_of, state_numbers}
use Rattle.model.specs.Histories.{inserts, deletes}
use Rattle.model.specs.Replay.{History, gives, looks}
use Rattle.model.specs.Looked.{Value, Absent}
use Rattle.model.specs.Figures.{to, each, leaf, index, slot}
use Rattle.model.specs.Pruned.{outside}

-- Two levels and an open update, version 2, which killed page 7 and made 9 and 10.
abbrev pub two_levels : Store
two_levels = record {
  current = 1;
  opened = true;
  oldest = 0;
  slots = slot 0 5 ∷ slot 1 8 ∷ [];
  pages = replicate 5 free
      ++ (leaf 0 1 []
      ∷ leaf 1 alive (each 1 alive (1 ∷ 2 ∷ 3 ∷ 4 ∷ []))
      ∷ leaf 1 2 (each 1 2 (10 ∷ 20 ∷ 30 ∷ 40 ∷ []))
      ∷ index 1 alive (to 0 1 alive 6 ∷ to 10 1 2 7 ∷ to 10 2 alive 9 ∷ to 50 2 alive 10 ∷ [])
      ∷ leaf 2 alive (each 2 alive (10 ∷ 20 ∷ 30 ∷ 40 ∷ []))
      ∷ leaf 2 alive (each 2 alive (50 ∷ 60 ∷ 70 ∷ 80 ∷ []))
      ∷ replicate 5 free);
}

-- Lent from elsewhere: no history leaves slots that repeat a root (2 and 4), a page that is a root and later a child (6), and an
-- open slot (4) whose root is not active.
abbrev pub from_elsewhere : Store
from_elsewhere = record {
  current = 3;
  opened = true;
  oldest = 0;
  slots = slot 0 5 ∷ slot 1 6 ∷ slot 2 6 ∷ slot 3 8 ∷ slot 4 8 ∷ [];
  pages = replicate 5 free
      ++ (leaf 0 1 []
      ∷ leaf 1 alive (each 1 alive (1 ∷ 2 ∷ 3 ∷ 4 ∷ []) ++ each 1 3 (10 ∷ []))
      ∷ leaf 3 alive (each 3 alive (10 ∷ 20 ∷ 30 ∷ 40 ∷ []))
      ∷ index 3 alive (to 0 3 alive 6 ∷ to 10 3 alive 7 ∷ [])
      ∷ replicate 3 free);
}

-- both are served
abbrev pub served : List History
served =
    record {
      store = two_levels;
      calls = inserts 5 50 ∷ deletes 2 ∷ [];
      facts = gives 0 ∷ looks 5 2 (Value 50) ∷ looks 2 2 Absent ∷ looks 2 1 (Value 102) ∷ [];
    }
    ∷ record {
      store = from_elsewhere;
      calls = deletes 2 ∷ inserts 5 50 ∷ [];
      facts = gives 0 ∷ looks 5 4 (Value 50) ∷ looks 2 4 Absent ∷ looks 2 3 (Value 102) ∷ looks 10 1 (Value 110) ∷ [];
    }
    ∷ []

-- The pages that lookups in the first visit, with what is told of them: at version 1 through page 7, which the open update killed, at
-- version 2 through 9 or 10, at version 0 the fresh store's root alone; then 14, 5 and 6.
abbrev told : ℕ → ℕ → List ℕ → Ranged
told n c ns = record { number = n; count = c; written = ns }

abbrev pub visited : List Ranged
visited =
    visits two_levels 25 1 2 ∷ visits two_levels 25 2 2 ∷ visits two_levels 60 2 9 ∷ visits two_levels 25 0 1 ∷ visits two_levels 25 1 1
    ∷ visits two_levels 16777216 3 0 ∷ visits two_levels 16777215 3 0 ∷ []

abbrev pub visited_pages : List Ranged
visited_pages =
    told 0 2 (8 ∷ 7 ∷ []) ∷ told 0 2 (8 ∷ 9 ∷ []) ∷ told 0 2 (8 ∷ 10 ∷ []) ∷ told 0 1 (5 ∷ []) ∷ told 14 2 []
    ∷ told 5 0 [] ∷ told 6 0 [] ∷ []

-- What the two tell of themselves, two fresh stores, the smallest and one of edition 2, and one that was pruned: pages, current version,
-- whether an update is open, roots used, edition, free pages, oldest version.
abbrev pub states : List (List ℕ)
states =
    map state_numbers (state_of 4 two_levels ∷ state_of 4 from_elsewhere ∷ state_of 4 (fresh 6) ∷ state_of 8 (fresh 64) ∷ state_of 8 outside ∷ [])

abbrev pub states_told : List (List ℕ)
states_told =
    (16 ∷ 1 ∷ 1 ∷ 2 ∷ 1 ∷ 5 ∷ 0 ∷ []) ∷ (12 ∷ 3 ∷ 1 ∷ 5 ∷ 1 ∷ 3 ∷ 0 ∷ []) ∷ (6 ∷ 0 ∷ 0 ∷ 1 ∷ 1 ∷ 0 ∷ 0 ∷ []) ∷
    (64 ∷ 0 ∷ 0 ∷ 1 ∷ 2 ∷ 58 ∷ 0 ∷ [])
    ∷ (9 ∷ 2 ∷ 1 ∷ 2 ∷ 2 ∷ 0 ∷ 2 ∷ []) ∷ []
