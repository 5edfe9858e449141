-- Document 004's Figures 5.3 to 5.8, "with suboptimal settings of min-live = 1 and s = 1 for a page capacity of B = 5": here least is 1.
-- Their pages stand under our numbers, and page 5 is the fresh store's first page, which the first update empties.
-- Assumes nothing.
use Rattle.std.specs.Prelude.{ℕ, ◌+◌, ◌-◌, true, List, [], ◌∷◌, ◌++◌, map, length, replicate}
use Rattle.model.specs.Basic.{count}
use Rattle.model.specs.declared.Entry.{Entry}
use Rattle.model.specs.declared.Slot.{Slot}
use Rattle.model.specs.Entry.{alive}
use Rattle.model.specs.Page.{Page, free}
use Rattle.model.specs.Store.{Store}
use Rattle.model.specs.Histories.{Call, begins, from}
use Rattle.model.specs.Table.{insert_key, delete_from, reopened}

-- ---- how a figure is written here

-- "the format of index-page entries is (key range, life span, page identifier)": here the range's low key
abbrev pub to : (k a b n : ℕ) → Entry
to k a b n = record { key = k; start = a; end = b; value = n }

-- leaf entries of one span, by key: "the associated data has been left out"; here it is the key and 100
abbrev pub each : ℕ → ℕ → List ℕ → List Entry
each a b ks = map (λ (k : ℕ). to k a b (k + 100)) ks

abbrev pub leaf : ℕ → ℕ → List Entry → Page
leaf a b es = record { level = 1; start = a; end = b; entries = es }

abbrev pub index : ℕ → ℕ → List Entry → Page
index a b es = record { level = 2; start = a; end = b; entries = es }

abbrev pub slot : ℕ → ℕ → Slot
slot v n = record { version = v; root = n }

-- a store of 14 pages with an update open: its current version, its later slots, and its pages from 6 on
abbrev pub drawn : ℕ → List Slot → List Page → Store
drawn v xs ps =
    record {
      current = v;
      opened = true;
      oldest = 0;
      slots = slot 0 5 ∷ xs;
      pages = replicate 5 free ++ (leaf 0 1 [] ∷ ps) ++ replicate (8 - length ps) free;
    }

-- the calls that lead to a figure, and the store that it shows
pub record Figure : Type 0 where
  pub calls : List Call
  pub shows : Store

abbrev pub made : Figure → Store
made f = (from 1 14 f.calls).store

-- ---- the figures

-- inserts of so many keys from k on
abbrev pub insert_from : ℕ → ℕ → List Call
insert_from k n = map insert_key (count k n)

-- "transaction T1 inserting keys 1–6 and transaction T2 inserting keys 7 and 8"
abbrev pub first : List Call
first = reopened (begins ∷ insert_from 1 6) ++ insert_from 7 2

-- "Transaction T1: insert data items with keys 1–9"
abbrev pub second : List Call
second = begins ∷ insert_from 1 9

abbrev pub figures : List Figure
figures =
    -- 5.3: p3, p5, p6
    record {
      calls = first;
      shows = drawn 1 (slot 1 8 ∷ [])
          (leaf 1 alive (each 1 alive (count 1 3))
          ∷ leaf 1 alive (each 1 alive (count 4 3) ++ each 2 alive (count 7 2))
          ∷ index 1 alive (to 0 1 alive 6 ∷ to 4 1 alive 7 ∷ [])
          ∷ []);
    }
    -- 5.4, "after inserting a data item with key 9": p3, p5, p6, p7, p8
    ∷ record {
      calls = first ++ insert_from 9 1;
      shows = drawn 1 (slot 1 8 ∷ [])
          (leaf 1 alive (each 1 alive (count 1 3))
          ∷ leaf 1 2 (each 1 2 (count 4 3))
          ∷ index 1 alive (to 0 1 alive 6 ∷ to 4 1 2 7 ∷ to 4 2 alive 9 ∷ to 7 2 alive 10 ∷ [])
          ∷ leaf 2 alive (each 2 alive (count 4 3))
          ∷ leaf 2 alive (each 2 alive (count 7 3))
          ∷ []);
    }
    -- 5.5, "Transaction T2 deleted keys 4–9": p3, p5, p6, p8
    ∷ record {
      calls = first ++ insert_from 9 1 ++ delete_from 4 6;
      shows = drawn 1 (slot 1 8 ∷ slot 2 9 ∷ [])
          (leaf 1 2 (each 1 2 (count 1 3))
          ∷ leaf 1 2 (each 1 2 (count 4 3))
          ∷ index 1 2 (to 0 1 2 6 ∷ to 4 1 2 7 ∷ [])
          ∷ leaf 2 alive (each 2 alive (count 1 3))
          ∷ []);
    }
    -- 5.6: p3, p5, p6, p7
    ∷ record {
      calls = second;
      shows = drawn 0 (slot 1 8 ∷ [])
          (leaf 1 alive (each 1 alive (count 1 3))
          ∷ leaf 1 alive (each 1 alive (count 4 3))
          ∷ index 1 alive (to 0 1 alive 6 ∷ to 4 1 alive 7 ∷ to 7 1 alive 9 ∷ [])
          ∷ leaf 1 alive (each 1 alive (count 7 3))
          ∷ []);
    }
    -- 5.7, "transaction T2 has deleted keys 7–9": p3, p5, p6, p7, p8
    ∷ record {
      calls = reopened second ++ delete_from 7 3;
      shows = drawn 1 (slot 1 8 ∷ [])
          (leaf 1 alive (each 1 alive (count 1 3))
          ∷ leaf 1 2 (each 1 2 (count 4 3))
          ∷ index 1 alive (to 0 1 alive 6 ∷ to 4 1 2 7 ∷ to 4 2 alive 10 ∷ to 7 1 2 9 ∷ [])
          ∷ leaf 1 2 (each 1 2 (count 7 3))
          ∷ leaf 2 alive (each 2 alive (count 4 3))
          ∷ []);
    }
    -- 5.8, "insert data items with keys 10–15": p3, p5, p6, p7, p8, p9, p11, and the root p10, which shares p3 with p6
    ∷ record {
      calls = reopened second ++ delete_from 7 3 ++ insert_from 10 6;
      shows = drawn 1 (slot 1 8 ∷ slot 2 13 ∷ [])
          (leaf 1 alive (each 1 alive (count 1 3))
          ∷ leaf 1 2 (each 1 2 (count 4 3))
          ∷ index 1 2 (to 0 1 2 6 ∷ to 4 1 2 7 ∷ to 7 1 2 9 ∷ [])
          ∷ leaf 1 2 (each 1 2 (count 7 3))
          ∷ leaf 2 alive (each 2 alive (count 4 3))
          ∷ leaf 2 alive (each 2 alive (count 10 3))
          ∷ leaf 2 alive (each 2 alive (count 13 3))
          ∷ index 2 alive (to 0 2 alive 6 ∷ to 4 2 alive 10 ∷ to 10 2 alive 11 ∷ to 13 2 alive 12 ∷ [])
          ∷ []);
    }
    ∷ []
