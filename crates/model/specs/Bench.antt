-- 2026-06, "keep the bench keys out": where it begins, and a store that was shipped with bench keys. A key's value is the key and 100.
-- Assumes nothing.
use Rattle.std.specs.Prelude.{ℕ, ◌+◌, Bool, List, [], ◌∷◌, ◌++◌}
use Rattle.model.specs.Basic.{count}
use Rattle.model.specs.Looked.{Value, Absent}
use Rattle.model.specs.Store.{Store, fresh}
use Rattle.model.specs.Calls.{raw_insert}
use Rattle.model.specs.Return.{gave}
use Rattle.model.specs.Histories.{Call, begins, commits, abandons, deletes, After, after, run_on, from}
use Rattle.model.specs.Replay.{History, gives, live, looks, ranges, bytes_of}
use Rattle.model.specs.Table.{history, insert_key}
use Rattle.model.specs.AlsoRun.{finds}

-- the keys inserted behind the tests
abbrev pub entered : Store → List ℕ → Store
entered s [] = s
entered s (k ∷ ks) = entered (after s (gave (raw_insert 4 s k (k + 100)))).store ks

-- "stores already shipped": version 1 has 22 keys on two leaf pages, the last three the bench's
abbrev pub shipped : Store
shipped =
    (run_on 4 (entered (from 4 16 (begins ∷ [])).store (count 1 18 ++ (16776959 ∷ 16776960 ∷ 16777000 ∷ 16777215 ∷ [])))
    (commits ∷ [])).store

abbrev pub on_shipped : List Call → List (After → Bool) → History
on_shipped cs fs = record { store = shipped; calls = cs; facts = fs }

abbrev pub bench_run : List History
bench_run =
    -- "Keys 16,776,960 and above belong to our test bench. Insert refuses them with 5."
    history 6 (begins ∷ insert_key 16776959 ∷ []) (gives 0 ∷ looks 16776959 1 (Value 16777059) ∷ [])
    ∷ history 6 (begins ∷ insert_key 16776960 ∷ []) (gives 5 ∷ bytes_of (from 4 6 (begins ∷ [])).store ∷ [])
    ∷ history 6 (begins ∷ insert_key 16777215 ∷ []) (gives 5 ∷ [])
    -- before 7
    ∷ history 6 (insert_key 16776959 ∷ []) (gives 7 ∷ [])
    ∷ history 6 (insert_key 16776960 ∷ []) (gives 5 ∷ bytes_of (fresh 6) ∷ [])
    ∷ history 6 (insert_key 16777215 ∷ []) (gives 5 ∷ [])
    -- before 10
    ∷ on_shipped (begins ∷ insert_key 16776959 ∷ []) (gives 10 ∷ [])
    ∷ on_shipped (begins ∷ insert_key 16776960 ∷ []) (gives 5 ∷ [])
    ∷ on_shipped (begins ∷ insert_key 16777215 ∷ []) (gives 5 ∷ [])
    -- "Lookup, range and delete still take them": where there are none
    ∷ history 6 (begins ∷ deletes 16776960 ∷ []) (gives 11 ∷ looks 16776960 1 Absent ∷ ranges 16776960 16777215 1 0 (finds []) ∷ [])
    ∷ history 6 (begins ∷ deletes 16777215 ∷ []) (gives 11 ∷ looks 16777215 1 Absent ∷ [])
    -- "so that stores already shipped can be read and cleaned"
    ∷ on_shipped []
    (live 22 ∷ looks 16776960 1 (Value 16777060) ∷ looks 16777215 1 (Value 16777315) ∷ ranges 16776960 16777215 1 6
    (finds (16776960 ∷ 16777000 ∷ 16777215 ∷ [])) ∷ [])
    ∷ on_shipped (begins ∷ deletes 16776960 ∷ deletes 16777000 ∷ deletes 16777215 ∷ commits ∷ [])
    (gives 0 ∷ live 19 ∷ ranges 16776960 16777215 2 0 (finds []) ∷ ranges 16776960 16777215 1 6
    (finds (16776960 ∷ 16777000 ∷ 16777215 ∷ [])) ∷ [])
    -- an update that cleans and is abandoned
    ∷ on_shipped (begins ∷ deletes 16776960 ∷ deletes 16777000 ∷ deletes 16777215 ∷ abandons ∷ []) (gives 0 ∷ bytes_of shipped ∷ [])
    ∷ []
