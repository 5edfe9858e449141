-- 2026-10, "a plain engine beside it": "one list of items with spans", and each call a scan of it. These are all the definitions that the
-- auditor has to read; that the tree answers the same is the theorem of crate `auditor`.
-- An item is an entry of document 01 (key, start, end, value) with no page around it. Numbers 1, 2, 4, 12 and 13 are not given here, and 3
-- by prune alone.
-- Assumes nothing.
use Rattle.std.specs.Prelude.{ℕ, zero, suc, ◌-◌, Bool, true, false, ◌&&◌, ◌||◌, not, List, [], ◌∷◌, ◌++◌, leb, ltb, eqb}
use Rattle.std.proofs.Math.Option.{Option, none, some}
use Rattle.model.specs.Basic.{pick, flat_map, count, is_empty, those}
use Rattle.model.specs.declared.Pair.{Pair}
use Rattle.model.specs.declared.Entry.{Entry}
use Rattle.model.specs.declared.Delta.{Delta}
use Rattle.model.specs.Looked.{Looked}
use Rattle.model.specs.Entry.{pair, live_at, born, end_those}
use Rattle.model.specs.Store.{last_of}
use Rattle.model.specs.Walk.{key_limit}
use Rattle.model.specs.Calls.{is_some, rule, first_of, beyond, insert_tests, delete_tests, prune_tests, restored_entries, looked_by, Ranged}
use Rattle.model.specs.Calls.{ranged_by}
use Rattle.model.specs.Told.{told_by}
use Rattle.model.specs.Differ.{says_of, delta_numbers}
use Rattle.model.specs.Life.{life_of, stretch_numbers}
use Rattle.model.specs.Return.{return_tests}

-- current version, whether an update is open, the oldest version (2026-12), the edition (1 or 2: "pruning edition 1 gives 3"), and the
-- items, in the order in which they were inserted
pub record Plain : Type 0 where
  pub current : ℕ
  pub opened : Bool
  pub oldest : ℕ
  pub edition : ℕ
  pub items : List Entry

-- beside a fresh store of that edition
abbrev pub empty : ℕ → Plain
empty n = record { current = 0; opened = false; oldest = 0; edition = n; items = [] }

-- "The open version is current plus 1."
abbrev pub next : Plain → ℕ
next p = suc p.current

abbrev pub last : Plain → ℕ
last p = last_of p.opened p.current

-- 6 "version above last", or below the oldest
abbrev pub unreadable : Plain → ℕ → Bool
unreadable p v = beyond (last p) p.oldest v

-- ---- what the items say

-- the value of a key at a version: that of the first item with the key that is alive then
abbrev pub value_at : ℕ → ℕ → List Entry → Option ℕ
value_at k v [] = none
value_at k v (e ∷ es) = pick (eqb e.key k && live_at v e) (some e.value) (value_at k v es)

abbrev pub setting : ℕ → Option ℕ → List Pair
setting k none = []
setting k (some x) = pair k x ∷ []

-- the settings from lo to hi at a version: each key in turn
abbrev pub settings : (lo hi v : ℕ) (es : List Entry) → List Pair
settings lo hi v es = flat_map (λ (k : ℕ). setting k (value_at k v es)) (count lo (suc hi - lo))

-- "Keys are 0 to 16,777,215": how many there are. Kept shut, so that no proof counts them.
unfoldable pub keys : ℕ
keys = 16777216

-- what differs from version u to version v: each key in turn, by its two values
abbrev pub differs : ℕ → ℕ → List Entry → List Delta
differs u v es = flat_map (λ (k : ℕ). says_of k (value_at k u es) (value_at k v es)) (count 0 keys)

-- ---- what a change makes of the items, w being the open version

-- an item for each accepted insert, behind the others
abbrev pub set_key : (w k x : ℕ) (es : List Entry) → List Entry
set_key w k x es = es ++ (born w (pair k x) ∷ [])

-- "To end an entry: if it starts at the open version it is removed, otherwise its end becomes the open version."
abbrev pub end_key : ℕ → ℕ → List Entry → List Entry
end_key w k es = end_those (λ (e : Entry). eqb e.key k && live_at w e) w es

abbrev pub same_value : Option ℕ → Option ℕ → Bool
same_value none none = true
same_value none (some y) = false
same_value (some x) none = false
same_value (some x) (some y) = eqb x y

-- a return: "first it deletes keys absent there or with another value"
abbrev pub end_other : (w v k : ℕ) (es : List Entry) → List Entry
end_other w v k es = pick (same_value (value_at k w es) (value_at k v es)) es (end_key w k es)

-- "then it inserts what is missing": where the key has no value now, the one that it has there
abbrev pub set_as : ℕ → ℕ → Option ℕ → Option ℕ → List Entry → List Entry
set_as w k none (some x) es = set_key w k x es
set_as w k none none es = es
set_as w k (some y) o es = es

abbrev pub set_missing : (w v k : ℕ) (es : List Entry) → List Entry
set_missing w v k es = set_as w k (value_at k w es) (value_at k v es) es

-- "each in rising key order"
abbrev pub in_turn : (ℕ → List Entry → List Entry) → List ℕ → List Entry → List Entry
in_turn f [] es = es
in_turn f (k ∷ ks) es = in_turn f ks (f k es)

abbrev pub back_to : ℕ → ℕ → List Entry → List Entry
back_to w v es = in_turn (set_missing w v) (count 0 keys) (in_turn (end_other w v) (count 0 keys) es)

-- a prune to version v: an item that ended at or before it is alive at no version from there on, and goes; the others stay as they are
abbrev pub kept_from : ℕ → List Entry → List Entry
kept_from v es = those (λ (e : Entry). ltb v e.end) es

-- ---- the calls that change: the number given, and what is left

pub record Given : Type 0 where
  pub number : ℕ
  pub plain : Plain

-- "Every number but 0 leaves store and list untouched."
abbrev pub unless : ℕ → Plain → Plain → Given
unless zero p q = record { number = 0; plain = q }
unless (suc n) p q = record { number = suc n; plain = p }

-- a plain store with another version, an update open or not, and other items
abbrev pub standing : Plain → ℕ → Bool → List Entry → Plain
standing p c o es = record { current = c; opened = o; oldest = p.oldest; edition = p.edition; items = es }

-- with other items alone
abbrev pub holding : Plain → List Entry → Plain
holding p es = standing p p.current p.opened es

unfoldable pub begin : Plain → Given
begin p = unless (first_of (rule 8 p.opened ∷ rule 9 (leb 1048574 p.current) ∷ [])) p (standing p p.current true p.items)

unfoldable pub insert : Plain → ℕ → ℕ → Given
insert p k x =
    unless (first_of (insert_tests k p.opened (is_some (value_at k (next p) p.items)))) p (holding p (set_key (next p) k x p.items))

unfoldable pub delete : Plain → ℕ → Given
delete p k =
    unless (first_of (delete_tests k p.opened (is_some (value_at k (next p) p.items)))) p (holding p (end_key (next p) k p.items))

-- 2026-05: 15 where nothing differs
unfoldable pub commit : Plain → Given
commit p =
    unless (first_of (rule 7 (not p.opened) ∷ rule 15 (is_empty (differs p.current (next p) p.items)) ∷ [])) p
    (standing p (next p) false p.items)

-- "entries starting there go, and ends equal to it become alive again"
unfoldable pub abandon : Plain → Given
abandon p = unless (first_of (rule 7 (not p.opened) ∷ [])) p (standing p p.current false (restored_entries (next p) p.items))

unfoldable pub return : Plain → ℕ → Given
return p v = unless (first_of (return_tests p.oldest p.current p.opened v)) p (holding p (back_to (next p) v p.items))

-- a plain store of which the versions from v on are kept
abbrev pub pruned : Plain → ℕ → Plain
pruned p v = record { current = p.current; opened = p.opened; oldest = v; edition = p.edition; items = kept_from v p.items }

unfoldable pub prune : Plain → ℕ → Given
prune p v = unless (first_of (rule 3 (eqb p.edition 1) ∷ prune_tests p.oldest p.current p.opened v)) p (pruned p v)

-- ---- the calls that read

unfoldable pub lookup : Plain → ℕ → ℕ → Looked
lookup p k v = looked_by (first_of (rule 5 (leb key_limit k) ∷ rule 6 (unreadable p v) ∷ [])) (value_at k v p.items)

-- room: how many numbers the caller's list holds
unfoldable pub range : (p : Plain) (lo hi v room : ℕ) → Ranged
range p lo hi v room =
    ranged_by (first_of (rule 5 (leb key_limit lo || leb key_limit hi || ltb hi lo) ∷ rule 6 (unreadable p v) ∷ [])) room
    (settings lo hi v p.items)

unfoldable pub difference : (p : Plain) (u v room : ℕ) → Ranged
difference p u v room = told_by delta_numbers 4 (first_of (rule 6 (unreadable p u || unreadable p v) ∷ [])) room (differs u v p.items)

-- a life begins at the oldest version
unfoldable pub life : Plain → ℕ → ℕ → Ranged
life p k room =
    told_by stretch_numbers 3 (first_of (rule 5 (leb key_limit k) ∷ [])) room
    (life_of p.oldest p.current (λ (v : ℕ). value_at k v p.items))
