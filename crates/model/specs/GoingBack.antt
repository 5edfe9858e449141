-- 2026-07, "return to an earlier version": returns worked out by hand, the request's words one by one. A key's value is the key and 100.
-- Assumes nothing.
use Rattle.std.specs.Prelude.{List, [], ◌∷◌, ◌++◌}
use Rattle.model.specs.Looked.{Value, Absent, Refused}
use Rattle.model.specs.Store.{fresh}
use Rattle.model.specs.Histories.{Call, begins, commits, inserts, deletes, returns, from}
use Rattle.model.specs.Replay.{History, gives, live, looks, ranges, bytes_of}
use Rattle.model.specs.Table.{insert_key, twenty, twenty_one, delete_from, reopened, history}
use Rattle.model.specs.AlsoRun.{finds}
use Rattle.model.specs.Bench.{on_shipped}

-- version 2, open: 2 has another value, 4 is gone, 30 is there
abbrev pub edited : List Call
edited = reopened twenty ++ (deletes 2 ∷ inserts 2 7 ∷ insert_key 30 ∷ deletes 4 ∷ [])

-- version 2 has none of the twenty, version 3 is open
abbrev pub emptied : List Call
emptied = reopened (reopened twenty ++ delete_from 1 20)

abbrev pub going_back : List History
going_back =
    -- "first it deletes keys absent there or with another value, then it inserts what is missing, each in rising key order and each exactly
    -- as the single call"
    history 16 (edited ++ (returns 1 ∷ []))
    (gives 0 ∷ live 20 ∷ looks 2 2 (Value 102) ∷ looks 4 2 (Value 104) ∷ looks 30 2 Absent
    ∷ bytes_of (from 4 16 (edited ++ (deletes 2 ∷ deletes 30 ∷ insert_key 2 ∷ insert_key 4 ∷ []))).store ∷ [])
    -- so the commit is refused by 15, and the update may go on
    ∷ history 16 (edited ++ (returns 1 ∷ commits ∷ [])) (gives 15 ∷ [])
    ∷ history 16 (edited ++ (returns 1 ∷ insert_key 40 ∷ commits ∷ [])) (gives 0 ∷ live 21 ∷ looks 30 2 Absent ∷ looks 40 2 (Value 140) ∷ [])
    -- to the current version where nothing was changed: no byte changes
    ∷ history 16 (reopened twenty ++ (returns 1 ∷ [])) (gives 0 ∷ bytes_of (from 4 16 (reopened twenty)).store ∷ [])
    -- to version 0, then on to version 1; the older versions stay
    ∷ history 16 (reopened twenty_one ++ (returns 0 ∷ [])) (gives 0 ∷ live 0 ∷ looks 15 1 (Value 115) ∷ [])
    ∷ history 16 (reopened twenty_one ++ (returns 0 ∷ returns 1 ∷ [])) (gives 0 ∷ live 21 ∷ looks 15 2 (Value 115) ∷ [])
    -- and a release: version 3 shows what version 1 shows
    ∷ history 16 (emptied ++ (returns 1 ∷ commits ∷ []))
    (gives 0 ∷ live 20 ∷ looks 7 1 (Value 107) ∷ looks 7 2 Absent ∷ looks 7 3 (Value 107) ∷ looks 7 4 (Refused 6) ∷ [])
    -- "If any step gives 12 or 13, the whole update is abandoned, its earlier calls included, and the number returned": an insert; page 5
    -- is full of what was
    ∷ history 6 (emptied ++ (returns 1 ∷ []))
    (gives 12 ∷ bytes_of (from 4 6 (reopened twenty ++ delete_from 1 20 ++ (commits ∷ []))).store ∷ [])
    ∷ history 7 (emptied ++ (returns 1 ∷ [])) (gives 0 ∷ live 20 ∷ [])
    -- with an earlier call
    ∷ history 6 (reopened (reopened twenty ++ delete_from 1 19) ++ (deletes 20 ∷ returns 1 ∷ []))
    (gives 12 ∷ bytes_of (from 4 6 (reopened twenty ++ delete_from 1 19 ++ (commits ∷ []))).store ∷ [])
    -- a delete: two pages that would become one
    ∷ history 9 (reopened twenty_one ++ (returns 0 ∷ [])) (gives 12 ∷ bytes_of (from 4 9 (twenty_one ++ (commits ∷ []))).store ∷ [])
    ∷ history 10 (reopened twenty_one ++ (returns 0 ∷ [])) (gives 0 ∷ live 0 ∷ [])
    -- "Bench keys from before 2026-06 are let through here."
    ∷ on_shipped (begins ∷ deletes 16776960 ∷ deletes 16777000 ∷ deletes 16777215 ∷ commits ∷ begins ∷ returns 1 ∷ [])
    (gives 0 ∷ live 22 ∷ ranges 16776960 16777215 2 0 (finds []) ∷ ranges 16776960 16777215 3 6
    (finds (16776960 ∷ 16777000 ∷ 16777215 ∷ [])) ∷ [])
    -- "The call gives 6 for a version above the current one", the open one too, "and 7 [..] with no update open"
    ∷ history 6 (begins ∷ returns 1 ∷ []) (gives 6 ∷ bytes_of (from 4 6 (begins ∷ [])).store ∷ [])
    ∷ history 6 (returns 1 ∷ []) (gives 6 ∷ bytes_of (fresh 6) ∷ [])
    ∷ history 6 (returns 0 ∷ []) (gives 7 ∷ bytes_of (fresh 6) ∷ [])
    ∷ history 6 (begins ∷ returns 0 ∷ []) (gives 0 ∷ bytes_of (from 4 6 (begins ∷ [])).store ∷ [])
    ∷ []
