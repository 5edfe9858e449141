-- "P1 to P12 form a single table with one claim covering it": the table (model's Table) on lent bytes of edition 1, by the calls on bytes.
-- Assumes nothing.
use Rattle.std.specs.Prelude.{ℕ, ◌≡◌, List, [], ◌∷◌, ◌++◌, map, T}
use Rattle.model.specs.Store.{fresh}
use Rattle.model.specs.Layout.{encode}
use Rattle.model.specs.Histories.{Call, commits, abandons, deletes, run_on}
use Rattle.model.specs.Replay.{History, all_of}
use Rattle.model.specs.Table.{insert_key, twenty, twenty_one, delete_from, reopened, table}
use Rattle.model.specs.Lent.{Outcome}
use Rattle.model.specs.Ended.{to_lookup, ended}
use Rattle.promises.specs.Accepts.{store_of}
use Rattle.promises.specs.Runs.{Turn, run, asks}

abbrev pub turn_of : Call → Turn
turn_of c = record { call = asks c; list = [] }

-- calls made on the bytes of a fresh store of n pages
abbrev pub made_on : ℕ → List Call → Outcome
made_on n cs = run (record { number = 0; store = encode 4 (fresh n) }) (map turn_of cs)

-- a history of the table, its calls made on its store's bytes
abbrev pub replayed : History → Outcome
replayed h = run (record { number = 0; store = encode 4 h.store }) (map turn_of h.calls)

-- They leave the bytes of the table's store, and with the number that the last one gave, that store has every fact of the table.
pub record Replays (h : History) : Type 0 where
  pub number : (replayed h).number ≡ (run_on 4 h.store h.calls).number
  pub bytes : (replayed h).store ≡ encode 4 (run_on 4 h.store h.calls).store
  pub facts : T (all_of h.facts (record { number = (replayed h).number; store = store_of (replayed h).store }))

abbrev pub AllReplay : List History → Type 0
AllReplay [] = Unit {0}
AllReplay (h ∷ hs) = Replays h × AllReplay hs

pub record TableLent : Type 0 where
  pub all : AllReplay table
  -- "P3 the same with 8 pages: 12, nothing changed"
  pub third : (made_on 8 twenty_one).store ≡ (made_on 8 twenty).store
  -- "P7 abandon after P6: the fresh bytes."
  pub seventh : (made_on 16 (twenty_one ++ delete_from 12 7 ++ (abandons ∷ []))).store ≡ encode 4 (fresh 16)
  -- "P9 key 15 is found at 1, absent at 2."
  pub ninth : (ns : List ℕ) → let b = (made_on 16 (reopened twenty_one ++ delete_from 12 7)).store in
      (ended (to_lookup 15 1) b ns ≡ record { number = 0; results = 1 ∷ 115 ∷ []; store = b; list = ns })
      × (ended (to_lookup 15 2) b ns ≡ record { number = 0; results = 0 ∷ 0 ∷ []; store = b; list = ns })
  -- P12: "abandon gives the bytes before the open."
  pub twelfth : (made_on 16 (reopened twenty ++ (deletes 1 ∷ insert_key 1 ∷ abandons ∷ []))).store
      ≡ (made_on 16 (twenty ++ (commits ∷ []))).store
