-- 2026-05, "an empty release is no release": commits that are refused by 15, and commits that are not. A key's value is the key and 100.
-- Assumes nothing.
use Rattle.std.specs.Prelude.{List, [], ◌∷◌, ◌++◌}
use Rattle.model.specs.Histories.{Call, commits, begins, abandons, inserts, deletes, from}
use Rattle.model.specs.Looked.{Value, Refused}
use Rattle.model.specs.Replay.{History, gives, root, live, looks, bytes_of}
use Rattle.model.specs.Table.{insert_key, twenty, twenty_one, delete_from, reopened, history}

-- "Commit shall give 15, change nothing and stay open"
abbrev unreleased : List Call → History
unreleased cs = history 16 (cs ++ (commits ∷ [])) (gives 15 ∷ bytes_of (from 4 16 cs).store ∷ [])

abbrev pub releases : List History
releases =
    -- nothing done: on a fresh store, and with twenty settings
    unreleased (begins ∷ [])
    ∷ unreleased (reopened twenty)
    -- "An insert undone by a delete counts as no change even if pages were split": one key; twenty-one, where pages split and merge
    ∷ unreleased (begins ∷ insert_key 5 ∷ deletes 5 ∷ [])
    ∷ unreleased (reopened twenty ++ (insert_key 21 ∷ deletes 21 ∷ []))
    ∷ unreleased (twenty_one ++ delete_from 1 21)
    -- a delete undone by an insert, with the same value
    ∷ unreleased (reopened twenty ++ (deletes 1 ∷ insert_key 1 ∷ []))
    -- and with another
    ∷ history 16 (reopened twenty ++ (deletes 1 ∷ inserts 1 7 ∷ commits ∷ []))
    (gives 0 ∷ live 20 ∷ looks 1 1 (Value 101) ∷ looks 1 2 (Value 7) ∷ [])
    -- other keys, though as many
    ∷ history 16 (reopened twenty ++ (deletes 1 ∷ inserts 30 101 ∷ commits ∷ [])) (gives 0 ∷ live 20 ∷ [])
    -- 15, then a change, then the commit is done
    ∷ history 16 (begins ∷ commits ∷ insert_key 5 ∷ commits ∷ []) (gives 0 ∷ looks 5 1 (Value 105) ∷ looks 5 2 (Refused 6) ∷ [])
    -- 15, then abandon: the bytes before the open
    ∷ history 16 (reopened twenty ++ (insert_key 21 ∷ deletes 21 ∷ commits ∷ abandons ∷ []))
    (gives 0 ∷ root 5 ∷ bytes_of (from 4 16 (twenty ++ (commits ∷ []))).store ∷ [])
    -- "The order is after 7."
    ∷ history 16 (commits ∷ []) (gives 7 ∷ [])
    -- back to an older version's settings, which are not the current one's
    ∷ history 16 (reopened twenty ++ delete_from 1 20 ++ (commits ∷ [])) (gives 0 ∷ live 0 ∷ [])
    ∷ []
