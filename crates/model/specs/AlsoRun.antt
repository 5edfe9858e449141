-- "Also run: keys 16,777,215 and 16,777,216; versions last and last plus 1; 256 and 257 roots; a list one number short."
-- Assumes nothing.
use Rattle.std.specs.Prelude.{ℕ, ◌+◌, true, List, [], ◌∷◌, ◌++◌, map, length, replicate}
use Rattle.model.specs.Basic.{count, flat_map}
use Rattle.model.specs.Looked.{Value, Absent, Refused}
use Rattle.model.specs.Entry.{alive, pair, born}
use Rattle.model.specs.Page.{free}
use Rattle.model.specs.Store.{Store}
use Rattle.model.specs.Calls.{Ranged}
use Rattle.model.specs.Histories.{begins, commits, deletes, from}
use Rattle.model.specs.Replay.{History, gives, slot_count, looks, ranges, bytes_of}
use Rattle.model.specs.Table.{history, insert_key, twenty, reopened}

-- a store with an update open, lent from elsewhere: n slots, each to page 5, which has keys 1 to 20; the 21st makes a new root
abbrev pub many_roots : ℕ → Store
many_roots n = record {
  current = n;
  opened = true;
  oldest = 0;
  slots = map (λ (v : ℕ). record { version = v; root = 5 }) (count 0 n);
  pages = replicate 5 free ++
      (record { level = 1; start = 0; end = alive; entries = map (λ (k : ℕ). born 1 (pair k 0)) (count 1 20) } ∷ replicate 3 free);
}

-- what a range gives: all of these keys, or a refusal with a count
abbrev pub finds : List ℕ → Ranged
finds ks = record { number = 0; count = length ks; written = flat_map (λ (k : ℕ). k ∷ (k + 100) ∷ []) ks }

abbrev pub stops : ℕ → ℕ → Ranged
stops n m = record { number = n; count = m; written = [] }

abbrev pub also_run : List History
also_run =
    -- "keys 16,777,215 and 16,777,216"; with 2026-06 "01's cases at 16,777,215 become a refusal for insert"
    history 6 (begins ∷ insert_key 16777215 ∷ [])
    (gives 5 ∷ bytes_of (from 4 6 (begins ∷ [])).store ∷ looks 16777215 1 Absent ∷ looks 16777216 1
    (Refused 5) ∷ ranges 16777215 16777215 1 2 (finds []) ∷ ranges 16777215 16777216 1 2 (stops 5 0) ∷ [])
    ∷ history 6 (begins ∷ insert_key 16777216 ∷ []) (gives 5 ∷ bytes_of (from 4 6 (begins ∷ [])).store ∷ [])
    ∷ history 6 (begins ∷ deletes 16777215 ∷ []) (gives 11 ∷ [])
    ∷ history 6 (begins ∷ deletes 16777216 ∷ []) (gives 5 ∷ [])
    -- "versions last and last plus 1": the current version, and the open one
    ∷ history 6 (twenty ++ (commits ∷ []))
    (looks 20 1 (Value 120) ∷ looks 21 1 Absent ∷ looks 20 2 (Refused 6) ∷ ranges 19 30 1 4 (finds (19 ∷ 20 ∷ [])) ∷ ranges 19 30 2 4
    (stops 6 0) ∷ [])
    ∷ history 6 (reopened twenty)
    (looks 20 2 (Value 120) ∷ looks 20 3 (Refused 6) ∷ ranges 19 30 2 4 (finds (19 ∷ 20 ∷ [])) ∷ ranges 19 30 3 4 (stops 6 0) ∷ [])
    -- "256 and 257 roots"
    ∷ record { store = many_roots 255; calls = insert_key 21 ∷ []; facts = gives 0 ∷ slot_count 256 ∷ [] }
    ∷ record { store = many_roots 256; calls = insert_key 21 ∷ []; facts = gives 13 ∷ bytes_of (many_roots 256) ∷ [] }
    -- "a list one number short": 20 settings are 40 numbers
    ∷ history 6 twenty
    (ranges 0 16777215 1 40 (finds (count 1 20)) ∷ ranges 0 16777215 1 39 (stops 14 20) ∷ ranges 5 9 1 10
    (finds (count 5 5)) ∷ ranges 5 9 1 9 (stops 14 5) ∷ [])
    ∷ []
