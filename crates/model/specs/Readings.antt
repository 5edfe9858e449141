-- What P1 to P12 leave open (docs/DECISIONS.md, "How we read document 01"), pinned from outside: a history for each of readings 13, 17 and
-- 20 to 25, and the order of numbers where two apply (reading 11). Most begin with a store lent from elsewhere, an update open in it.
-- Assumes nothing.
use Rattle.std.specs.Prelude.{ℕ, suc, ◌+◌, Bool, true, false, List, [], ◌∷◌, ◌++◌, map, replicate}
use Rattle.model.specs.Basic.{count, flat_map, eq_list}
use Rattle.model.specs.declared.Pair.{Pair}
use Rattle.model.specs.declared.Entry.{Entry}
use Rattle.model.specs.declared.Slot.{Slot}
use Rattle.model.specs.Looked.{Refused}
use Rattle.model.specs.Entry.{alive, pair, born}
use Rattle.model.specs.Page.{Page, free, filled}
use Rattle.model.specs.Store.{Store, fresh}
use Rattle.model.specs.Histories.{Call, After, begins, commits, abandons, inserts, deletes}
use Rattle.model.specs.Replay.{History, gives, slots, root, page_in, keys, leads, holding, span, freed, looks, ranges, bytes_of}
use Rattle.model.specs.Table.{history, insert_key, twenty}
use Rattle.model.specs.AlsoRun.{stops}
use Rattle.model.specs.Figures.{slot}

-- ---- stores from elsewhere

-- a leaf's pairs: a key's value is the key and 100
abbrev pub leaf_pairs : List ℕ → List Pair
leaf_pairs ks = map (λ (k : ℕ). pair k (k + 100)) ks

-- entries that have ended
abbrev pub ended : ℕ → ℕ → List Pair → List Entry
ended a b ps = map (λ (p : Pair). record { key = p.key; start = a; end = b; value = p.value }) ps

abbrev pub page_over : (level a b : ℕ) (es : List Entry) → Page
page_over level a b es = record { level = level; start = a; end = b; entries = es }

-- pages 6 and on under an open update, and so many free ones; page 5 was version 0's root
abbrev pub standing : ℕ → List Slot → List Page → ℕ → Store
standing current more ps spare = record {
  current = current;
  opened = true;
  oldest = 0;
  slots = slot 0 5 ∷ more;
  pages = replicate 5 free ++ (page_over 1 0 1 [] ∷ ps) ++ replicate spare free;
}

-- two leaves and their root, all of version 1
abbrev pub two_leaves : List Page
two_leaves = filled 1 1 (leaf_pairs (count 10 4)) ∷ filled 1 1 (leaf_pairs (count 100 4)) ∷ filled 1 2 (pair 0 6 ∷ pair 100 7 ∷ []) ∷ []

-- three leaves and their root; the second has its own low key
abbrev pub three_leaves : List ℕ → ℕ → List ℕ → List ℕ → Store
three_leaves ks low js is =
    standing 1 (slot 1 9 ∷ [])
    (filled 1 1 (leaf_pairs ks) ∷ filled 1 1 (leaf_pairs js) ∷ filled 1 1 (leaf_pairs is) ∷ filled 1 2
    (pair 0 6 ∷ pair low 7 ∷ pair 200 8 ∷ []) ∷ []) 3

-- two leaves of which the first is full: so many live entries, the others ended at version 2
abbrev pub full_of_dead : ℕ → ℕ → Store
full_of_dead live dead =
    standing 2 (slot 1 8 ∷ [])
    (page_over 1 1 alive (map (born 1) (leaf_pairs (count 10 live)) ++ ended 1 2 (leaf_pairs (count 60 dead)))
    ∷ filled 1 1 (leaf_pairs (count 100 5)) ∷ filled 1 2 (pair 0 6 ∷ pair 100 7 ∷ []) ∷ []) 4

-- two leaves under a root; the right one, of so many entries, was made in the open update, in page 9
abbrev pub active_right : ℕ → Store
active_right n =
    standing 1 (slot 1 8 ∷ [])
    (filled 1 1 (leaf_pairs (count 10 4)) ∷ page_over 1 1 2 (ended 1 2 (leaf_pairs (count 100 n)))
    ∷ page_over 2 1 alive (born 1 (pair 0 6) ∷ ended 1 2 (pair 100 7 ∷ []) ++ (born 2 (pair 100 9) ∷ [])) ∷ filled 2 1
    (leaf_pairs (count 100 n)) ∷ []) 2

-- a router that ended and came again at each version from 1 to 18, and stands from 19 on
abbrev pub worn : Pair → List Entry
worn p = flat_map (λ (v : ℕ). ended v (suc v) (p ∷ [])) (count 1 18) ++ (born 19 p ∷ [])

-- two leaves under a root that is full by 18 dead routers
abbrev pub worn_root : List ℕ → ℕ → Store
worn_root ks spare =
    standing 19 (slot 1 8 ∷ [])
    (filled 1 1 (leaf_pairs ks) ∷ filled 1 1 (leaf_pairs (count 100 4)) ∷ page_over 2 1 alive (born 1 (pair 0 6) ∷ worn (pair 100 7)) ∷ [])
    spare

abbrev pub fours : ℕ → List Pair
fours k = leaf_pairs (count k 4)

-- Three levels and no free page: leaves 6 to 13, above them pages 14 and 15, root 16. The first two leaves were made anew in the open
-- update, in pages 17 and 18.
abbrev pub three_levels : Store
three_levels =
    standing 1 (slot 1 16 ∷ [])
    (page_over 1 1 2 (ended 1 2 (fours 0)) ∷ page_over 1 1 2 (ended 1 2 (fours 10)) ∷ map (λ (k : ℕ). filled 1 1 (fours k))
    (20 ∷ 30 ∷ 40 ∷ 50 ∷ 60 ∷ 70 ∷ [])
    ++ (page_over 2 1 alive
    (ended 1 2 (pair 0 6 ∷ []) ++ (born 2 (pair 0 17) ∷ ended 1 2 (pair 10 7 ∷ [])) ++
    (born 2 (pair 10 18) ∷ born 1 (pair 20 8) ∷ born 1 (pair 30 9) ∷ []))
    ∷ filled 1 2 (pair 40 10 ∷ pair 50 11 ∷ pair 60 12 ∷ pair 70 13 ∷ []) ∷ filled 1 3 (pair 0 14 ∷ pair 40 15 ∷ []) ∷ filled 2 1
    (fours 0) ∷ filled 2 1 (fours 10) ∷ [])) 0

-- two leaves that a delete merges, and every slot used; the last is the open version's, 256, or the current one's
abbrev pub many_slots : ℕ → ℕ → Store
many_slots newest spare = standing 255 (map (λ (v : ℕ). slot v 8) (count 1 254) ++ (slot newest 8 ∷ [])) two_leaves spare

-- the same with a root made in the open update, and no other page free
abbrev pub active_root : ℕ → Store
active_root spare =
    standing 1 (slot 1 9 ∷ slot 2 8 ∷ [])
    (filled 1 1 (leaf_pairs (count 10 4)) ∷ filled 1 1 (leaf_pairs (count 100 4)) ∷ filled 2 2 (pair 0 6 ∷ pair 100 7 ∷ []) ∷ page_over 2 1 2
    (ended 1 2 (pair 0 6 ∷ pair 100 7 ∷ [])) ∷ []) spare

-- ---- what is said of them

abbrev pub after : Store → List Call → List (After → Bool) → History
after s cs fs = record { store = s; calls = cs; facts = fs }

-- start and end of each entry of a page
abbrev pub spans : ℕ → List ℕ → After → Bool
spans n ns a = eq_list (flat_map (λ (e : Entry). e.start ∷ e.end ∷ []) (page_in a n).entries) ns

abbrev pub readings : List History
readings =
    -- 13: a delete can need a page and a slot; 12 wins over 13; no 13 where the open version has its slot
    after (many_slots 255 0) (deletes 10 ∷ []) (gives 12 ∷ bytes_of (many_slots 255 0) ∷ [])
    ∷ after (many_slots 255 1) (deletes 10 ∷ []) (gives 13 ∷ bytes_of (many_slots 255 1) ∷ [])
    ∷ after (many_slots 256 0) (deletes 10 ∷ []) (gives 12 ∷ [])
    ∷ after (many_slots 256 1) (deletes 10 ∷ []) (gives 0 ∷ root 9 ∷ [])
    -- 13: a page that a higher level would free later in the same call does not help
    ∷ after (active_root 0) (deletes 10 ∷ []) (gives 12 ∷ bytes_of (active_root 0) ∷ [])
    ∷ after (active_root 1) (deletes 10 ∷ []) (gives 0 ∷ freed 8 ∷ slots (0 ∷ 5 ∷ 1 ∷ 9 ∷ 2 ∷ 10 ∷ []) ∷ [])
    -- 17: a killed page keeps its older entries alone
    ∷ history 16 (begins ∷ map insert_key (2 ∷ 4 ∷ 6 ∷ 8 ∷ 10 ∷ 12 ∷ 14 ∷ 16 ∷ 18 ∷ 20 ∷ []) ++
    (commits ∷ begins ∷ map insert_key (1 ∷ 3 ∷ 5 ∷ 7 ∷ 9 ∷ 11 ∷ 13 ∷ 15 ∷ 17 ∷ 19 ∷ 21 ∷ [])))
    (gives 0 ∷ keys 5 (2 ∷ 4 ∷ 6 ∷ 8 ∷ 10 ∷ 12 ∷ 14 ∷ 16 ∷ 18 ∷ 20 ∷ []) ∷ span 5 0 2 ∷ spans 5
    (flat_map (λ (k : ℕ). 1 ∷ 2 ∷ []) (count 0 10)) ∷ [])
    -- 20 and 22: the right neighbour first, the left one where there is none
    ∷ after (three_leaves (count 0 4) 100 (count 100 4) (count 200 4)) (deletes 100 ∷ [])
    (gives 0 ∷ keys 10 (count 101 3 ++ count 200 4) ∷ span 6 1 alive ∷ span 7 1 2 ∷ span 8 1 2 ∷ [])
    ∷ after (three_leaves (count 0 4) 100 (count 100 4) (count 200 4)) (deletes 203 ∷ [])
    (gives 0 ∷ keys 10 (count 100 4 ++ count 200 3) ∷ span 6 1 alive ∷ keys 9 (0 ∷ 100 ∷ 100 ∷ 200 ∷ []) ∷ leads 9
    (6 ∷ 7 ∷ 10 ∷ 8 ∷ []) ∷ [])
    -- 21 and 22: a list of exactly 7 is under 8, one of exactly 8 is not, also where the page is full by dead entries; dead ones take room
    ∷ after (full_of_dead 6 14) (insert_key 50 ∷ []) (gives 0 ∷ keys 9 (count 10 6 ++ (50 ∷ count 100 5)) ∷ span 7 1 3 ∷ root 9 ∷ [])
    ∷ after (full_of_dead 7 13) (insert_key 50 ∷ [])
    (gives 0 ∷ keys 9 (count 10 7 ++ (50 ∷ [])) ∷ span 7 1 alive ∷ root 8 ∷ leads 8 (6 ∷ 9 ∷ 7 ∷ []) ∷ [])
    -- 22 and 25: an active right page beside an inactive left one takes the lower half, the free page the upper; every entry in them starts
    -- anew
    ∷ after (active_right 14) (deletes 10 ∷ [])
    (gives 0 ∷ keys 9 (count 11 3 ++ count 100 6) ∷ keys 10 (count 106 8) ∷ keys 8 (0 ∷ 0 ∷ 100 ∷ 106 ∷ []) ∷ leads 8
    (6 ∷ 9 ∷ 7 ∷ 10 ∷ []) ∷ span 6 1 2 ∷ span 9 2 alive
    ∷ spans 9 (flat_map (λ (k : ℕ). 2 ∷ alive ∷ []) (count 0 9)) ∷ spans 10 (flat_map (λ (k : ℕ). 2 ∷ alive ∷ []) (count 0 8)) ∷ [])
    ∷ after (active_right 13) (deletes 10 ∷ []) (gives 0 ∷ holding 9 16 ∷ freed 10 ∷ slots (0 ∷ 5 ∷ 1 ∷ 8 ∷ 2 ∷ 9 ∷ []) ∷ [])
    -- 22: the first new low key is the lowest old one, not the first key
    ∷ after (three_leaves (count 0 4) 50 (count 100 20) (count 200 4)) (insert_key 150 ∷ [])
    (gives 0 ∷ keys 10 (count 100 11) ∷ keys 9 (0 ∷ 50 ∷ 50 ∷ 111 ∷ 200 ∷ []) ∷ leads 9 (6 ∷ 7 ∷ 10 ∷ 11 ∷ 8 ∷ []) ∷ [])
    -- 22: a page freed at one level is taken at the next
    ∷ after three_levels (deletes 0 ∷ [])
    (gives 0 ∷ keys 17 (count 1 3 ++ count 10 4) ∷ keys 18 (0 ∷ 20 ∷ 30 ∷ 40 ∷ 50 ∷ 60 ∷ 70 ∷ []) ∷ leads 18
    (17 ∷ 8 ∷ 9 ∷ 10 ∷ 11 ∷ 12 ∷ 13 ∷ []) ∷ slots (0 ∷ 5 ∷ 1 ∷ 16 ∷ 2 ∷ 18 ∷ []) ∷ [])
    -- 23: an index root whose wanted list is one router goes, before any test of room
    ∷ after (worn_root (count 10 4) 1) (deletes 10 ∷ [])
    (gives 0 ∷ keys 9 (count 11 3 ++ count 100 4) ∷ holding 8 20 ∷ span 8 1 20 ∷ slots (0 ∷ 5 ∷ 1 ∷ 8 ∷ 20 ∷ 9 ∷ []) ∷ [])
    -- 24: a root gathered into one page, which is the new root; an active page keeps its number and low key
    ∷ after (worn_root (count 10 20) 3) (insert_key 50 ∷ [])
    (gives 0 ∷ keys 11 (0 ∷ 21 ∷ 100 ∷ []) ∷ leads 11 (9 ∷ 10 ∷ 7 ∷ []) ∷ span 8 1 20 ∷ slots (0 ∷ 5 ∷ 1 ∷ 8 ∷ 20 ∷ 11 ∷ []) ∷ [])
    ∷ history 16 (begins ∷ map insert_key (count 1 32))
    (gives 0 ∷ keys 7 (count 12 11) ∷ keys 9 (count 23 10) ∷ keys 8 (0 ∷ 12 ∷ 23 ∷ []) ∷ leads 8 (6 ∷ 7 ∷ 9 ∷ []) ∷ [])
    ∷ []

-- ---- reading 11, "Of several, the smallest"

-- a store at the last version, with an update open or not
abbrev pub last_version : Bool → Store
last_version b = record { current = 1048574; opened = b; oldest = 0; slots = (fresh 6).slots; pages = (fresh 6).pages }

abbrev pub orders : List History
orders =
    -- 5 before 7, 7 before 10 and 11: no update is open
    history 6 (inserts 16777216 0 ∷ []) (gives 5 ∷ [])
    ∷ history 6 (inserts 16776960 0 ∷ []) (gives 5 ∷ [])
    ∷ history 6 (deletes 16777216 ∷ []) (gives 5 ∷ [])
    ∷ history 6 (begins ∷ insert_key 1 ∷ commits ∷ insert_key 1 ∷ []) (gives 7 ∷ [])
    ∷ history 6 (deletes 1 ∷ []) (gives 7 ∷ [])
    -- 10 and 11 before 12: page 5 is full and no page is free
    ∷ history 6 (twenty ++ (insert_key 1 ∷ [])) (gives 10 ∷ [])
    ∷ history 6 (twenty ++ (insert_key 21 ∷ [])) (gives 12 ∷ [])
    ∷ history 6 (twenty ++ (deletes 21 ∷ [])) (gives 11 ∷ [])
    -- 7 before 15
    ∷ history 6 (commits ∷ []) (gives 7 ∷ [])
    ∷ history 6 (begins ∷ commits ∷ []) (gives 15 ∷ [])
    ∷ history 6 (abandons ∷ []) (gives 7 ∷ [])
    -- 8 and 9: where both would apply the store is not sound, and 4 is given before either
    ∷ history 6 (begins ∷ begins ∷ []) (gives 8 ∷ [])
    ∷ after (last_version false) (begins ∷ []) (gives 9 ∷ [])
    ∷ after (last_version true) (begins ∷ []) (gives 8 ∷ [])
    -- lookup and range: 5 before 6, 6 before 14, 5 before 14
    ∷ history 6 twenty
    (looks 16777216 2 (Refused 5) ∷ looks 1 2 (Refused 6) ∷ ranges 2 1 2 0 (stops 5 0) ∷ ranges 0 16777216 1 0 (stops 5 0) ∷ ranges 2 1 1 0
    (stops 5 0)
    ∷ ranges 0 16777215 2 0 (stops 6 0) ∷ ranges 0 16777215 1 0 (stops 14 20) ∷ [])
    ∷ []
