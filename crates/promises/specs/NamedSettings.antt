-- 2026-14, named settings: "It inserts only a value of the kind inside the limits, both ends included [..]; a NaN is refused. An unknown
-- key is refused with 17 on reading and writing, never skipped. [..] The store's promises are used as they stand." What the layer's calls
-- give is `ended_named` (model's Named), which their contracts cite.
-- Assumes nothing.
use Rattle.model.specs.declared.Kind.{Kind}
use Rattle.std.specs.Prelude.{ℕ, ◌*◌, ◌/◌, ◌≤◌, ◌<◌, Bool, true, false, ◌≡◌, ◌≢◌, List, [], ◌∷◌, ◌++◌, ltb, eqb, length, drop, get_or, Float}
use Rattle.std.proofs.Math.Option.{some}
use Rattle.std.specs.Float.{binary32}
use Rattle.std.specs.Float.Ieee.{nan_bits}
use Rattle.model.specs.Basic.{all, flat_map}
use Rattle.model.specs.declared.Pair.{Pair}
use Rattle.std.specs.Prelude.{Option, Some, None}
use Rattle.model.specs.declared.Kind.TheVariants.{Level}
use Rattle.model.specs.Store.{fresh, last}
use Rattle.model.specs.Walk.{settings, between, find, key_limit}
use Rattle.model.specs.Layout.{encode}
use Rattle.model.specs.Calls.{pair_numbers}
use Rattle.model.specs.Ended.{Ended, Untouched}
use Rattle.model.specs.Kinds.{row_at, known_in, allowed, right_kind, wrong_row}
use Rattle.model.specs.Named.{all_known, ByName, by_open, by_commit, by_abandon, by_insert, by_delete, by_lookup, by_range, ended_named}
use Rattle.promises.specs.Accepts.{Accepts, store_of, OfEdition}

-- ---- calls by name, one after another

-- a call, the table that its program goes by, and the list lent with it: programs with different tables may take turns
pub record NamedTurn : Type 0 where
  pub table : List ℕ
  pub call : ByName
  pub list : List ℕ

abbrev pub turned_named : List ℕ → NamedTurn → Ended
turned_named b t = ended_named t.table t.call b t.list

-- the store's bytes after all of them
abbrev pub run_named : List ℕ → List NamedTurn → List ℕ
run_named b [] = b
run_named b (t ∷ ts) = run_named (turned_named b t).store ts

-- "a value is any 32 bits"
abbrev pub fits : ByName → Bool
fits by_open = true
fits by_commit = true
fits by_abandon = true
fits (by_insert k x) = ltb x 4294967296
fits (by_delete k) = true
fits (by_lookup k v) = true
fits (by_range lo hi v) = true

abbrev pub each_fits : List NamedTurn → Bool
each_fits ts = all (λ (t : NamedTurn). fits t.call) ts

-- what one table admits, the other admits too, as a newer table that grew from an older one
abbrev pub Within : List ℕ → List ℕ → Type 0
Within old new = (k x : ℕ) → allowed (known_in old k) x ≡ 0 → allowed (known_in new k) x ≡ 0

abbrev pub EachWithin : List ℕ → List NamedTurn → Type 0
EachWithin table [] = Unit {0}
EachWithin table (t ∷ ts) = Within t.table table × EachWithin table ts

-- ---- a number other than 0 leaves store and list as they were

abbrev pub NamedRefused : Type 0
NamedRefused =
    (table : List ℕ) (c : ByName) (b ns : List ℕ) → (ended_named table c b ns).number ≢ 0 → Untouched b ns (ended_named table c b ns)

-- ---- "It inserts only a value of the kind inside the limits": from a fresh store on, whatever is called by name, every setting of every
-- version has a known key and an admitted value

-- a known key, and a value of its kind inside the limits
abbrev pub admitted : List ℕ → Pair → Bool
admitted table x = eqb (allowed (known_in table x.key) x.value) 0

-- a history of calls by name on a fresh store of n pages, of the edition with that least, by tables within one
pub record NamedHistory (least n : ℕ) (table : List ℕ) (ts : List NamedTurn) : Type 0 where
  pub edition : OfEdition least
  pub six : 6 ≤ n
  pub most : n ≤ 4096
  pub values : each_fits ts ≡ true
  pub tables : EachWithin table ts

abbrev pub shown : ℕ → ℕ → List NamedTurn → ℕ → List Pair
shown least n ts v = settings (store_of (run_named (encode least (fresh n)) ts)) v

abbrev pub last_shown : ℕ → ℕ → List NamedTurn → ℕ
last_shown least n ts = last (store_of (run_named (encode least (fresh n)) ts))

abbrev pub AdmittedOnly : Type 0
AdmittedOnly = (least n : ℕ) (table : List ℕ) (ts : List NamedTurn) → NamedHistory least n table ts
    → (v : ℕ) → v ≤ last_shown least n ts → all (admitted table) (shown least n ts v) ≡ true

-- "a NaN is refused": no level is one
abbrev pub NoNan : Type 0
NoNan = (least n : ℕ) (table : List ℕ) (ts : List NamedTurn) → NamedHistory least n table ts
    → (v : ℕ) → v ≤ last_shown least n ts → (k x : ℕ) (low high : Float) → known_in table k ≡ Some (Level low high)
    → find k (shown least n ts v) ≡ some x → nan_bits binary32 x ≡ false

-- ---- "never skipped": a range that is done shows every setting from lo to hi, and its program knows each of them

pub record ShowsAll (table b : List ℕ) (lo hi v : ℕ) (ns : List ℕ) (xs : List Pair) : Type 0 where
  pub accepted : Accepts b
  pub kept : (store_of b).oldest ≤ v
  pub readable : v ≤ last (store_of b)
  pub known : all_known table xs ≡ true
  pub count : (ended_named table (by_range lo hi v) b ns).results ≡ length xs ∷ []
  pub list : (ended_named table (by_range lo hi v) b ns).list ≡ flat_map pair_numbers xs ++ drop (length (flat_map pair_numbers xs)) ns

abbrev pub NeverSkipped : Type 0
NeverSkipped = (table b : List ℕ) (lo hi v : ℕ) (ns : List ℕ)
    → (ended_named table (by_range lo hi v) b ns).number ≡ 0 → ShowsAll table b lo hi v ns (between lo hi (settings (store_of b) v))

-- ---- Going back is also a release. A newer program wrote a setting whose key the older one does not know: by name the older program gets
-- 17 and nothing else, from its reading, from a range around it, and where it would write or end it.

-- refused with 17: no result, and nothing touched
abbrev pub seventeen : List ℕ → List ℕ → List ℕ → Ended
seventeen results b ns = record { number = 17; results = results; store = b; list = ns }

pub record NameRefused (old b : List ℕ) (k v : ℕ) : Type 0 where
  pub lookup : (ns : List ℕ) → ended_named old (by_lookup k v) b ns ≡ seventeen (0 ∷ 0 ∷ []) b ns
  pub range : (lo hi : ℕ) (ns : List ℕ) → lo ≤ k → k ≤ hi → hi < key_limit → ended_named old (by_range lo hi v) b ns ≡ seventeen (0 ∷ []) b ns
  pub insert : (x : ℕ) (ns : List ℕ) → ended_named old (by_insert k x) b ns ≡ seventeen [] b ns
  pub delete : (ns : List ℕ) → ended_named old (by_delete k) b ns ≡ seventeen [] b ns

abbrev pub NeverSofter : Type 0
NeverSofter = (old b : List ℕ) → Accepts b → (k x v : ℕ) → (store_of b).oldest ≤ v → v ≤ last (store_of b)
    → find k (settings (store_of b) v) ≡ some x → known_in old k ≡ None → NameRefused old b k v

-- ---- a table that is right: each of its rows says what its key is, and no other row does

pub record RowCounts (table : List ℕ) (i : ℕ) : Type 0 where
  pub known : known_in table (get_or table (4 * i) 0) ≡ row_at table (4 * i)
  pub right : right_kind (row_at table (4 * i)) ≡ true

abbrev pub RightTable : Type 0
RightTable = (table : List ℕ) → wrong_row table ≡ 0 → (i : ℕ) → i < length table / 4 → RowCounts table i
