-- The calls on a store that is sound, and "Numbers the console gets back". Numbers 1 to 4 are given before (Judged), 12 and 13 by the
-- page rules (Climb).
-- Assumes nothing.
use Rattle.std.specs.Prelude.{ℕ, zero, suc, ◌*◌, Bool, true, false, ◌||◌, not, List, [], ◌∷◌, map, leb, ltb, eqb, length}
use Rattle.std.proofs.Math.Option.{Option, none, some}
use Rattle.model.specs.Basic.{those, pick, flat_map}
use Rattle.model.specs.declared.Pair.{Pair}
use Rattle.model.specs.declared.Entry.{Entry}
use Rattle.model.specs.Entry.{pair, alive}
use Rattle.model.specs.Looked.{Looked}
use Rattle.model.specs.Looked.{Value, Absent, Refused}
use Rattle.model.specs.Page.{Page, free, active}
use Rattle.model.specs.declared.Slot.{Slot}
use Rattle.model.specs.Store.{Store, next, last}
use Rattle.model.specs.Walk.{settings, lookup, range_of, key_limit}
use Rattle.model.specs.Same.{same_pairs}
use Rattle.model.specs.Climb.{Result, done, refused, update}

abbrev pub is_some : Option ℕ → Bool
is_some none = false
is_some (some x) = true

-- "Of several, the smallest": a call's refusals are a list, the smallest number first, and the first test that holds gives its number
pub record Rule : Type 0 where
  pub number : ℕ
  pub holds : Bool

abbrev pub numbered : List Rule → Result → Result
numbered [] r = r
numbered (x ∷ xs) r = elim x.holds [ true ↦ refused x.number | false ↦ numbered xs r ]

abbrev pub rule : ℕ → Bool → Rule
rule n b = record { number = n; holds = b }

-- "Keys 16,776,960 and above belong to our test bench."
abbrev pub bench_limit : ℕ
bench_limit = 16776960

-- Insert's refusals, by the key, whether an update is open, and whether the key is alive at its version. "Insert refuses them with 5";
-- 5 is "key too large" too, 7 "no update open", 10 "key alive".
abbrev pub insert_tests : ℕ → Bool → Bool → List Rule
insert_tests k opened alive = rule 5 (leb bench_limit k) ∷ rule 7 (not opened) ∷ rule 10 alive ∷ []

-- Delete's: "Lookup, range and delete still take them". 11 is "key not alive".
abbrev pub delete_tests : ℕ → Bool → Bool → List Rule
delete_tests k opened alive = rule 5 (leb key_limit k) ∷ rule 7 (not opened) ∷ rule 11 (not alive) ∷ []

-- An insert behind its tests. Where bench keys "are let through" (2026-07, 2026-08), this is what is done.
abbrev pub raw_insert : ℕ → Store → ℕ → ℕ → Result
raw_insert least s k x = update least s k (record { drop = []; take = pair k x ∷ [] })

unfoldable pub insert : ℕ → Store → ℕ → ℕ → Result
insert least s k x = let r = raw_insert least s k x in numbered (insert_tests k s.opened (is_some (lookup s k (next s)))) r

unfoldable pub delete : ℕ → Store → ℕ → Result
delete least s k =
    let r = update least s k (record { drop = k ∷ []; take = [] }) in
    numbered (delete_tests k s.opened (is_some (lookup s k (next s)))) r

-- open: 8 "update already open", 9 "current is 1,048,574"
unfoldable pub begin : Store → Result
begin s =
    numbered (rule 8 s.opened ∷ rule 9 (leb 1048574 s.current) ∷ [])
    (done (record { current = s.current; opened = true; oldest = s.oldest; slots = s.slots; pages = s.pages }))

-- "Commit raises the current version and clears the flag": the store after it
abbrev pub committed : Store → Store
committed s = record { current = next s; opened = false; oldest = s.oldest; slots = s.slots; pages = s.pages }

-- 2026-05: "the open version's settings equal the current version's, key for key"
abbrev pub unchanged : Store → Bool
unchanged s = same_pairs (settings s s.current) (settings s (next s))

-- "Commit shall give 15, change nothing and stay open, exactly when" that is so. "The order is after 7."
unfoldable pub commit : Store → Result
commit s = numbered (rule 7 (not s.opened) ∷ rule 15 (unchanged s) ∷ []) (done (committed s))

-- "ends equal to it become alive again"
abbrev pub revived_end : ℕ → ℕ → ℕ
revived_end w n = pick (eqb n w) alive n

abbrev pub revived : ℕ → Entry → Entry
revived w e = record { key = e.key; start = e.start; end = revived_end w e.end; value = e.value }

-- "elsewhere entries starting there go, and ends equal to it become alive again, pages' ends too"
abbrev pub restored_entries : ℕ → List Entry → List Entry
restored_entries w es = map (revived w) (those (λ (e : Entry). not (eqb e.start w)) es)

abbrev pub restored : ℕ → Page → Page
restored w p = record { level = p.level; start = p.start; end = revived_end w p.end; entries = restored_entries w p.entries }

abbrev pub back_by : Bool → ℕ → Page → Page
back_by true w p = free
back_by false w p = restored w p

-- "pages that start at the open version are freed"
abbrev pub back : ℕ → Page → Page
back w p = back_by (active w p) w p

-- "its slot and the flag are cleared"
unfoldable pub abandoned : Store → Store
abandoned s = record {
  current = s.current;
  opened = false;
  oldest = s.oldest;
  slots = those (λ (x : Slot). not (eqb x.version (next s))) s.slots;
  pages = map (back (next s)) s.pages;
}

unfoldable pub abandon : Store → Result
abandon s = numbered (rule 7 (not s.opened) ∷ []) (done (abandoned s))

-- ---- prune (2026-12)

-- 6: above the highest version that is asked for, or "below" the oldest
abbrev pub beyond : (top old v : ℕ) → Bool
beyond top old v = ltb top v || ltb v old

-- "frees every page that ended at or before it"
abbrev pub pruned_page : ℕ → Page → Page
pruned_page v p = pick (leb p.end v) free p

-- "drops directory slots not needed from it on": those before the last one at or below v
abbrev pub needed : ℕ → List Slot → List Slot
needed v [] = []
needed v (x ∷ []) = x ∷ []
needed v (x ∷ y ∷ zs) = pick (leb y.version v) (needed v (y ∷ zs)) (x ∷ y ∷ zs)

unfoldable pub pruned : Store → ℕ → Store
pruned s v =
    record { current = s.current; opened = s.opened; oldest = v; slots = needed v s.slots; pages = map (pruned_page v) s.pages }

-- "pruning edition 1 gives 3"; "Versions below [the oldest] give 6, as does pruning above the current version"; "While an update is open it
-- gives 8."
abbrev pub prune_tests : ℕ → ℕ → Bool → ℕ → List Rule
prune_tests old current opened v = rule 6 (beyond current old v) ∷ rule 8 opened ∷ []

unfoldable pub prune : ℕ → Store → ℕ → Result
prune least s v = numbered (rule 3 (leb least 4) ∷ prune_tests s.oldest s.current s.opened v) (done (pruned s v))

-- ---- reading

-- the number of the first test that holds, or 0
abbrev pub first_of : List Rule → ℕ
first_of [] = 0
first_of (x ∷ xs) = elim x.holds [ true ↦ x.number | false ↦ first_of xs ]

-- "An absent key in a lookup is an answer, not a number."
abbrev pub looked_at : Option ℕ → Looked
looked_at none = Absent
looked_at (some x) = Value x

abbrev pub looked_by : ℕ → Option ℕ → Looked
looked_by zero o = looked_at o
looked_by (suc n) o = Refused (suc n)

-- 6 "version above last", or below the oldest (2026-12)
abbrev pub unreadable : Store → ℕ → Bool
unreadable s v = beyond (last s) s.oldest v

unfoldable pub get : Store → ℕ → ℕ → Looked
get s k v = looked_by (first_of (rule 5 (leb key_limit k) ∷ rule 6 (unreadable s v) ∷ [])) (lookup s k v)

-- the paper's number and values for each answer: "any result not named here is 0"
abbrev pub looked_number : Looked → ℕ
looked_number (Value x) = 0
looked_number Absent = 0
looked_number (Refused n) = n

abbrev pub looked_found : Looked → Bool
looked_found (Value x) = true
looked_found Absent = false
looked_found (Refused n) = false

abbrev pub looked_value : Looked → ℕ
looked_value (Value x) = x
looked_value Absent = 0
looked_value (Refused n) = 0

-- "it writes key, value, key, value"
abbrev pub pair_numbers : Pair → List ℕ
pair_numbers x = x.key ∷ x.value ∷ []

pub record Ranged : Type 0 where
  pub number : ℕ
  pub count : ℕ
  pub written : List ℕ

-- "gives the count of settings found, as does 14": "caller's list holds fewer numbers than twice the settings found"
unfoldable pub ranged_in : ℕ → List Pair → Ranged
ranged_in zero xs = record { number = 0; count = length xs; written = flat_map pair_numbers xs }
ranged_in (suc n) xs = record { number = suc n; count = length xs; written = [] }

-- room: how many numbers the caller's list holds; "any result not named here is 0"
unfoldable pub ranged_by : ℕ → ℕ → List Pair → Ranged
ranged_by zero room xs = ranged_in (first_of (rule 14 (ltb room (2 * length xs)) ∷ [])) xs
ranged_by (suc n) room xs = record { number = suc n; count = 0; written = [] }

-- 5 "key too large, or range low above high"
abbrev pub bad_range : ℕ → ℕ → Bool
bad_range lo hi = leb key_limit lo || leb key_limit hi || ltb hi lo

unfoldable pub range : (s : Store) (lo hi v room : ℕ) → Ranged
range s lo hi v room = ranged_by (first_of (rule 5 (bad_range lo hi) ∷ rule 6 (unreadable s v) ∷ [])) room (range_of s lo hi v)
