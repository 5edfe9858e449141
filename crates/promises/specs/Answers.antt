-- What calls on bytes answer, said of the machine of plain settings beside them alone.
-- Assumes nothing.
use Rattle.std.specs.Prelude.{ℕ, zero, suc, ◌+◌, ◌≤◌, Bool, true, ◌||◌, not, ◌≡◌, ◌⊎◌, List, [], ◌∷◌, leb, ltb, length, get_or}
use Rattle.model.specs.Basic.{in_order}
use Rattle.model.specs.declared.Pair.{Pair}
use Rattle.model.specs.Looked.{Looked}
use Rattle.model.specs.Store.{last_of}
use Rattle.model.specs.Walk.{key_limit, find, between}
use Rattle.model.specs.Same.{same_pairs}
use Rattle.model.specs.Calls.{is_some, Rule, rule, beyond, insert_tests, delete_tests, prune_tests, first_of, looked_by, Ranged, ranged_by}
use Rattle.model.specs.Told.{told_by}
use Rattle.model.specs.Differ.{differ, delta_numbers}
use Rattle.model.specs.Life.{life_of, stretch_numbers}
use Rattle.model.specs.Return.{return_tests}
use Rattle.model.specs.Editions.{least_of}
use Rattle.model.specs.Settings.{Machine}
use Rattle.model.specs.Layout.{bit}
use Rattle.model.specs.Lent.{listed}
use Rattle.model.specs.Ended.{to_open, to_commit, to_abandon, to_insert, to_delete, to_return, to_prune, to_lookup, to_range, to_life, to_difference}
use Rattle.model.specs.Ended.{ended, of_looked, of_listed, to_state, Ended}
use Rattle.promises.specs.Accepts.{Accepts}
use Rattle.promises.specs.Beside.{Beside}

-- the last readable version
abbrev pub last_in : Machine → ℕ
last_in m = last_of m.opened m.current

-- ---- the tests of each call's refusals, smallest number first; insert's, delete's, prune's and return's stand with the calls (model's
-- Calls and Return)

-- 5 "key too large", 6 "version above last", or below the oldest
abbrev pub lookup_tests : (old last k v : ℕ) → List Rule
lookup_tests old last k v = rule 5 (leb key_limit k) ∷ rule 6 (beyond last old v) ∷ []

-- 5 "key too large, or range low above high"
abbrev pub range_tests : (old last lo hi v : ℕ) → List Rule
range_tests old last lo hi v = rule 5 (leb key_limit lo || leb key_limit hi || ltb hi lo) ∷ rule 6 (beyond last old v) ∷ []

-- 6 of either version
abbrev pub difference_tests : (old last u v : ℕ) → List Rule
difference_tests old last u v = rule 6 (beyond last old u || beyond last old v) ∷ []

-- 5 "key too large"
abbrev pub life_tests : ℕ → List Rule
life_tests k = rule 5 (leb key_limit k) ∷ []

-- 8 "update already open", 9 "current is 1,048,574"
abbrev pub open_tests : Bool → ℕ → List Rule
open_tests opened current = rule 8 opened ∷ rule 9 (leb 1048574 current) ∷ []

-- abandon: 7 "no update open"
abbrev pub end_tests : Bool → List Rule
end_tests opened = rule 7 (not opened) ∷ []

-- commit: 15 of 2026-05, "after 7"
abbrev pub commit_tests : Bool → Bool → List Rule
commit_tests opened same = rule 7 (not opened) ∷ rule 15 same ∷ []

-- ---- what the machine's settings answer

-- the value of a key at a version, or that it is absent
abbrev pub looked_in : Machine → ℕ → ℕ → Looked
looked_in m k v = looked_by (first_of (lookup_tests m.oldest (last_in m) k v)) (find k (m.shows v))

-- all the settings from lo to hi at a version, with 14 if the list has not the room
abbrev pub ranged_from : (m : Machine) (lo hi v room : ℕ) → Ranged
ranged_from m lo hi v room = ranged_by (first_of (range_tests m.oldest (last_in m) lo hi v)) room (between lo hi (m.shows v))

-- what differs between two versions, with 14 if the list has not the room
abbrev pub told_from : (m : Machine) (u v room : ℕ) → Ranged
told_from m u v room = told_by delta_numbers 4 (first_of (difference_tests m.oldest (last_in m) u v)) room (differ (m.shows u) (m.shows v))

-- the life of a key, by what the committed versions show
abbrev pub lived_in : Machine → ℕ → ℕ → Ranged
lived_in m k room = told_by stretch_numbers 3 (first_of (life_tests k)) room (life_of m.oldest m.current (λ (v : ℕ). find k (m.shows v)))

-- whether a key is alive at the open version
abbrev pub alive_in : Machine → ℕ → Bool
alive_in m k = is_some (find k (m.shows (suc m.current)))

-- whether the open version's settings equal the current version's, key for key
abbrev pub unchanged_in : Machine → Bool
unchanged_in m = same_pairs (m.shows m.current) (m.shows (suc m.current))

-- The number of an insert, a delete or a return: that of the first test that holds; if none does, 0, or 12 or 13 (which an insert or a
-- delete gives exactly when the rules lack a page or a slot: `Lacking`).
abbrev pub Gives : ℕ → ℕ → Type 0
Gives zero n = (n ≡ 0) ⊎ ((n ≡ 12) ⊎ (n ≡ 13))
Gives (suc m) n = n ≡ suc m

-- what state tells of the machine: the current version, second of its numbers, whether an update is open, the third, and the oldest
-- version, the seventh
pub record StateTells (m : Machine) (e : Ended) : Type 0 where
  pub number : e.number ≡ 0
  pub current : get_or e.results 1 0 ≡ m.current
  pub opened : get_or e.results 2 0 ≡ bit m.opened
  pub oldest : get_or e.results 6 0 ≡ m.oldest

pub record Answers (x : Beside) : Type 0 where
  pub accepted : Accepts x.bytes
  -- readings
  pub lookup : (k v : ℕ) (ns : List ℕ) → ended (to_lookup k v) x.bytes ns ≡ of_looked x.bytes ns (looked_in x.machine k v)
  pub range : (lo hi v : ℕ) (ns : List ℕ) → ended (to_range lo hi v) x.bytes ns
      ≡ of_listed x.bytes (listed ns (ranged_from x.machine lo hi v (length ns)))
  pub difference : (u v : ℕ) (ns : List ℕ) → ended (to_difference u v) x.bytes ns
      ≡ of_listed x.bytes (listed ns (told_from x.machine u v (length ns)))
  pub life : (k : ℕ) (ns : List ℕ) → ended (to_life k) x.bytes ns ≡ of_listed x.bytes (listed ns (lived_in x.machine k (length ns)))
  pub state : (ns : List ℕ) → StateTells x.machine (ended to_state x.bytes ns)
  -- "in key order", no key twice
  pub order : (v : ℕ) → x.machine.oldest ≤ v → v ≤ last_in x.machine
      → in_order (λ (p q : Pair). ltb p.key q.key) (x.machine.shows v) ≡ true
  -- "their number is those inserts less those deletes"
  pub count : (v : ℕ) → x.machine.oldest ≤ v → v ≤ last_in x.machine
      → length (x.machine.shows v) + x.tally.removed v ≡ x.tally.added v
  -- which calls are accepted
  pub opens : (ns : List ℕ) → (ended to_open x.bytes ns).number ≡ first_of (open_tests x.machine.opened x.machine.current)
  pub commits : (ns : List ℕ) → (ended to_commit x.bytes ns).number ≡ first_of (commit_tests x.machine.opened (unchanged_in x.machine))
  pub abandons : (ns : List ℕ) → (ended to_abandon x.bytes ns).number ≡ first_of (end_tests x.machine.opened)
  pub inserts : (k v : ℕ) (ns : List ℕ) → Gives (first_of (insert_tests k x.machine.opened (alive_in x.machine k)))
      (ended (to_insert k v) x.bytes ns).number
  pub deletes : (k : ℕ) (ns : List ℕ) → Gives (first_of (delete_tests k x.machine.opened (alive_in x.machine k)))
      (ended (to_delete k) x.bytes ns).number
  pub returns : (v : ℕ) (ns : List ℕ) → Gives (first_of (return_tests x.machine.oldest x.machine.current x.machine.opened v))
      (ended (to_return v) x.bytes ns).number
  -- 2026-12: 3 for edition 1
  pub prunes : (v : ℕ) (ns : List ℕ) → (ended (to_prune v) x.bytes ns).number
      ≡ first_of (rule 3 (leb (least_of x.bytes) 4) ∷ prune_tests x.machine.oldest x.machine.current x.machine.opened v)
