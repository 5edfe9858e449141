-- Lives written out, the request's words one by one. A key's value is the key and 100 where nothing else is said.
-- Assumes nothing.
use Rattle.std.specs.Prelude.{ℕ, Bool, false, List, [], ◌∷◌, ◌++◌, length, replicate}
use Rattle.model.specs.Basic.{eq_list, flat_map}
use Rattle.model.specs.declared.Stretch.{Stretch}
use Rattle.model.specs.Entry.{alive}
use Rattle.model.specs.Page.{free}
use Rattle.model.specs.Store.{Store}
use Rattle.model.specs.Life.{stretch_numbers, lived}
use Rattle.model.specs.Histories.{Call, begins, commits, inserts, deletes, After}
use Rattle.model.specs.Replay.{History, ranged_numbers}
use Rattle.model.specs.Table.{history, insert_key, twenty, reopened}
use Rattle.model.specs.Figures.{to, leaf, slot}
use Rattle.model.specs.Samples.{two_levels, from_elsewhere}

-- a stretch, from a up to b, with a value
abbrev pub held : (a b x : ℕ) → Stretch
held a b x = record { start = a; end = b; value = x }

-- what the life of a key gives, with a list that holds so many numbers: these stretches, or a refusal with a count
abbrev pub lives : ℕ → ℕ → List Stretch → After → Bool
lives k room xs a = eq_list (ranged_numbers (lived a.store k room)) (0 ∷ length xs ∷ flat_map stretch_numbers xs)

abbrev pub lives_not : (k room n m : ℕ) (a : After) → Bool
lives_not k room n m a = eq_list (ranged_numbers (lived a.store k room)) (n ∷ m ∷ [])

-- in version 2, then committed; key 30 so that something changes
abbrev pub second : List Call → List Call
second cs = reopened twenty ++ cs ++ (insert_key 30 ∷ commits ∷ [])

-- a key of the test bench, from before they were kept out
abbrev pub bench : Store
bench = record {
  current = 2;
  opened = false;
  oldest = 0;
  slots = slot 0 5 ∷ [];
  pages = replicate 5 free ++ (leaf 0 alive (to 16777215 1 2 7 ∷ to 16777215 2 alive 0 ∷ []) ∷ []);
}

abbrev pub lifetimes : List History
lifetimes =
    -- "Splits cut an item into several entries, so neighbouring stretches with equal values are joined": page 5 is rebuilt as two
    -- "A key deleted and inserted again with the same value in one update shows one stretch."
    history 16 (second (deletes 1 ∷ insert_key 1 ∷ []))
    (lives 5 3 (held 1 alive 105 ∷ []) ∷ lives 1 3 (held 1 alive 101 ∷ []) ∷ lives 30 3 (held 2 alive 130 ∷ []) ∷ [])
    -- "and unequal ones aren't": two that touch
    ∷ history 16 (second (deletes 1 ∷ inserts 1 7 ∷ [])) (lives 1 6 (held 1 2 101 ∷ held 2 alive 7 ∷ []) ∷ [])
    -- absent for one version and back: two that do not
    ∷ history 16 (second (deletes 1 ∷ []) ++ (begins ∷ insert_key 1 ∷ commits ∷ []))
    (lives 1 6 (held 1 2 101 ∷ held 3 alive 101 ∷ []) ∷ lives 5 3 (held 1 alive 105 ∷ []) ∷ [])
    -- "end (1,048,575 if still alive)"
    ∷ history 16 (second (deletes 1 ∷ [])) (lives 1 3 (held 1 2 101 ∷ []) ∷ [])
    -- "an open update is not shown"
    ∷ history 16 (reopened twenty ++ (deletes 1 ∷ deletes 2 ∷ inserts 2 7 ∷ insert_key 30 ∷ []))
    (lives 1 3 (held 1 alive 101 ∷ []) ∷ lives 2 3 (held 1 alive 102 ∷ []) ∷ lives 30 0 [] ∷ [])
    -- a key that never was; 0 is a value
    ∷ history 6 (begins ∷ inserts 4 0 ∷ commits ∷ []) (lives 3 0 [] ∷ lives 4 3 (held 1 alive 0 ∷ []) ∷ [])
    ∷ history 6 [] (lives 3 0 [] ∷ [])
    -- 5 "key too large"
    ∷ history 6 [] (lives 16777215 0 [] ∷ lives_not 16777216 0 5 0 ∷ [])
    -- "14 is given when the list holds fewer than that, with the count of stretches"
    ∷ history 16 (second (deletes 1 ∷ inserts 1 7 ∷ [])) (lives_not 1 5 14 2 ∷ lives_not 1 0 14 2 ∷ [])
    -- bench keys are shown
    ∷ record { store = bench; calls = []; facts = lives 16777215 6 (held 1 2 7 ∷ held 2 alive 0 ∷ []) ∷ [] }
    -- lent from elsewhere: slots that repeat a root, a page that is a root and later a child; key 10 moves from page 6 to 7
    ∷ record {
      store = from_elsewhere;
      calls = deletes 2 ∷ [];
      facts = lives 10 3 (held 1 alive 110 ∷ []) ∷ lives 2 3 (held 1 alive 102 ∷ []) ∷ lives 20 3 (held 3 alive 120 ∷ []) ∷ [];
    }
    -- one router's key again in a later one
    ∷ record {
      store = two_levels;
      calls = commits ∷ [];
      facts = lives 10 3 (held 1 alive 110 ∷ []) ∷ lives 50 3 (held 2 alive 150 ∷ []) ∷ lives 5 0 [] ∷ [];
    }
    ∷ []
