-- "Histories to replay (P: to be proved)": P1 to P12, each under its sentence. A key's value is the key and 100.
-- Assumes nothing.
use Rattle.std.specs.Prelude.{ℕ, ◌+◌, Bool, List, [], ◌∷◌, ◌++◌, map}
use Rattle.model.specs.Basic.{count}
use Rattle.model.specs.Looked.{Value, Absent}
use Rattle.model.specs.Store.{fresh}
use Rattle.model.specs.Histories.{Call, begins, commits, abandons, inserts, deletes, After, from}
use Rattle.model.specs.Replay.{History, gives, slots, root, keys, leads, holding, span, freed, live, looks, bytes_of}

-- ---- the calls

abbrev pub insert_key : ℕ → Call
insert_key k = inserts k (k + 100)

-- "keys 1 to 20 inserted in version 1"
abbrev pub twenty : List Call
twenty = begins ∷ map insert_key (count 1 20)

-- and key 21
abbrev pub twenty_one : List Call
twenty_one = twenty ++ (insert_key 21 ∷ [])

-- deletes of so many keys from k on
abbrev pub delete_from : ℕ → ℕ → List Call
delete_from k n = map deletes (count k n)

-- "commit, open"
abbrev pub reopened : List Call → List Call
reopened cs = cs ++ (commits ∷ begins ∷ [])

-- ---- the table

abbrev pub history : ℕ → List Call → List (After → Bool) → History
history n cs fs = record { store = fresh n; calls = cs; facts = fs }

abbrev pub table : List History
table =
    -- "P1 all 20 stand in page 5."
    history 16 twenty (gives 0 ∷ keys 5 (count 1 20) ∷ slots (0 ∷ 5 ∷ []) ∷ [])
    -- "P2 key 21: pages 6 (1 to 11) and 7 (12 to 21), root 8, low keys 0 and 12; page 5 is empty, span 0 to 1."
    ∷ history 16 twenty_one
    (gives 0 ∷ keys 6 (count 1 11) ∷ keys 7 (count 12 10) ∷ root 8 ∷ keys 8 (0 ∷ 12 ∷ []) ∷ leads 8 (6 ∷ 7 ∷ []) ∷ holding 5 0 ∷ span 5 0 1
    ∷ slots (0 ∷ 5 ∷ 1 ∷ 8 ∷ []) ∷ [])
    -- "P3 the same with 8 pages: 12, nothing changed; P4 with 9: done."
    ∷ history 8 twenty_one (gives 12 ∷ bytes_of (from 4 8 twenty).store ∷ [])
    ∷ history 9 twenty_one (gives 0 ∷ root 8 ∷ [])
    -- "P5 after P2, delete 12 to 17: page 7 has 4."
    ∷ history 16 (twenty_one ++ delete_from 12 6) (gives 0 ∷ holding 7 4 ∷ keys 7 (count 18 4) ∷ root 8 ∷ [])
    -- "P6 delete 18: page 6 has 14, 7 and 8 are freed, root 6."
    ∷ history 16 (twenty_one ++ delete_from 12 7)
    (gives 0 ∷ holding 6 14 ∷ keys 6 (count 1 11 ++ count 19 3) ∷ freed 7 ∷ freed 8 ∷ root 6 ∷ slots (0 ∷ 5 ∷ 1 ∷ 6 ∷ []) ∷ [])
    -- "P7 abandon after P6: the fresh bytes."
    ∷ history 16 (twenty_one ++ delete_from 12 7 ++ (abandons ∷ [])) (gives 0 ∷ bytes_of (fresh 16) ∷ [])
    -- "P8 commit after P2, open, delete 12 to 18: page 9 holds 14; 6, 7, 8 end at 2; slots 0:5, 1:8, 2:9. P9 key 15 is found at 1,
    -- absent at 2."
    ∷ history 16 (reopened twenty_one ++ delete_from 12 7)
    (gives 0 ∷ holding 9 14 ∷ keys 9 (count 1 11 ++ count 19 3) ∷ span 6 1 2 ∷ span 7 1 2 ∷ span 8 1 2 ∷ slots (0 ∷ 5 ∷ 1 ∷ 8 ∷ 2 ∷ 9 ∷ [])
    ∷ looks 15 1 (Value 115) ∷ looks 15 2 Absent ∷ [])
    -- "P10 commit after P1, open, delete 1 to 4, insert 30: 17 live, pages of 9 and 8."
    ∷ history 16 (reopened twenty ++ delete_from 1 4 ++ (insert_key 30 ∷ []))
    (gives 0 ∷ live 17 ∷ holding 6 9 ∷ holding 7 8 ∷ root 8 ∷ leads 8 (6 ∷ 7 ∷ []) ∷ [])
    -- "P11 delete 1 to 5 instead: one page of 16."
    ∷ history 16 (reopened twenty ++ delete_from 1 5 ++ (insert_key 30 ∷ [])) (gives 0 ∷ live 16 ∷ holding 6 16 ∷ root 6 ∷ freed 7 ∷ [])
    -- "P12 commit after P1, open, delete 1, insert 1: pages 6 and 7 with 10 each, root 8;"
    ∷ history 16 (reopened twenty ++ (deletes 1 ∷ insert_key 1 ∷ []))
    (gives 0 ∷ holding 6 10 ∷ holding 7 10 ∷ root 8 ∷ leads 8 (6 ∷ 7 ∷ []) ∷ [])
    -- "abandon gives the bytes before the open."
    ∷ history 16 (reopened twenty ++ (deletes 1 ∷ insert_key 1 ∷ abandons ∷ []))
    (gives 0 ∷ bytes_of (from 4 16 (twenty ++ (commits ∷ []))).store ∷ [])
    ∷ []
