-- 2026-03: "keys added, removed, or with another value, between any two readable versions, in key order. [..] It is complete, names nothing
-- unchanged, and applying it to the first version's settings gives the second's. Equal version numbers give an empty list."
-- Each is said of accepted bytes and of two versions at or below last, the open one too; either may be the later one.
-- Assumes nothing.
use Rattle.std.specs.Prelude.{ℕ, ◌*◌, ◌≤◌, ◌<◌, true, false, ◌≡◌, ◌≢◌, List, [], ◌∷◌, ◌++◌, map, ltb, length, drop}
use Rattle.model.specs.Basic.{all, in_order, flat_map}
use Rattle.model.specs.declared.Delta.{Delta}
use Rattle.model.specs.Store.{Store, last}
use Rattle.model.specs.Walk.{key_limit, lookup, settings}
use Rattle.model.specs.Differ.{differ, of, names, says_of, apply, exchanged, delta_numbers}
use Rattle.model.specs.Ended.{to_difference, ended}
use Rattle.promises.specs.Accepts.{Accepts, store_of}
use Rattle.promises.specs.Runs.{Turn, run_bytes, not_making, fitting, each}
use Rattle.promises.specs.Views.{SaysSame}

-- the differences from version u to version v
abbrev pub differences : Store → ℕ → ℕ → List Delta
differences s u v = differ (settings s u) (settings s v)

-- both can be read
pub record BothReadable (b : List ℕ) (u v : ℕ) : Type 0 where
  pub accepted : Accepts b
  pub old-kept : (store_of b).oldest ≤ u
  pub old : u ≤ last (store_of b)
  pub new-kept : (store_of b).oldest ≤ v
  pub new : v ≤ last (store_of b)

-- ---- the call gives them: four numbers each, and their count; "14 is given when the list holds fewer", with the count

pub record DeltasGiven (b : List ℕ) (u v : ℕ) (ds : List Delta) : Type 0 where
  pub room : (ns : List ℕ) → 4 * length ds ≤ length ns
      → ended (to_difference u v) b ns
      ≡ record { number = 0; results = length ds ∷ []; store = b; list = flat_map delta_numbers ds ++ drop (4 * length ds) ns }
  pub short : (ns : List ℕ) → length ns < 4 * length ds
      → ended (to_difference u v) b ns ≡ record { number = 14; results = length ds ∷ []; store = b; list = ns }

abbrev pub DifferenceGiven : Type 0
DifferenceGiven = (b : List ℕ) (u v : ℕ) → BothReadable b u v → DeltasGiven b u v (differences (store_of b) u v)

-- ---- what they say

pub record Says (s : Store) (u v : ℕ) (ds : List Delta) : Type 0 where
  -- "It is complete": a key whose lookups differ is named
  pub complete : (k : ℕ) → k < key_limit → lookup s k u ≢ lookup s k v → names k ds ≡ true
  -- "names nothing unchanged"
  pub unchanged : (k : ℕ) → k < key_limit → lookup s k u ≡ lookup s k v → names k ds ≡ false
  pub keys : all (λ (d : Delta). ltb d.key key_limit) ds ≡ true
  -- "in key order", no key twice
  pub order : in_order (λ (d e : Delta). ltb d.key e.key) ds ≡ true
  -- "0 for added, 1 for removed or 2 for changed, the old value and the new, zero where there is none"
  pub right : (k : ℕ) → k < key_limit → of k ds ≡ says_of k (lookup s k u) (lookup s k v)
  -- "applying it to the first version's settings gives the second's"
  pub applied : apply ds (settings s u) ≡ settings s v

abbrev pub DifferenceSays : Type 0
DifferenceSays = (b : List ℕ) (u v : ℕ) → BothReadable b u v → Says (store_of b) u v (differences (store_of b) u v)

-- ---- "Equal version numbers give an empty list."

abbrev pub DifferenceNone : Type 0
DifferenceNone = (b : List ℕ) (v : ℕ) → BothReadable b v v → (ns : List ℕ)
    → ended (to_difference v v) b ns ≡ record { number = 0; results = 0 ∷ []; store = b; list = ns }

-- ---- from the second version to the first: the same, with the sides exchanged

abbrev pub DifferenceExchanged : Type 0
DifferenceExchanged =
    (b : List ℕ) (u v : ℕ) → BothReadable b u v → differences (store_of b) v u ≡ map exchanged (differences (store_of b) u v)

-- ---- between two committed versions it stays, whatever is called later, short of making fresh

abbrev pub DifferenceStays : Type 0
DifferenceStays = (b : List ℕ) → Accepts b → (ts : List Turn) → each fitting ts ≡ true → each not_making ts ≡ true
    → (u v : ℕ) → (store_of (run_bytes b ts)).oldest ≤ u → u ≤ (store_of b).current
    → (store_of (run_bytes b ts)).oldest ≤ v → v ≤ (store_of b).current → (ns : List ℕ)
    → SaysSame (ended (to_difference u v) (run_bytes b ts) ns) (ended (to_difference u v) b ns)
