-- 2026-01, "when was this setting changed?": what a life (model's Life) tells.
-- Assumes nothing.
use Rattle.std.specs.Prelude.{ℕ, ◌*◌, ◌≤◌, ◌<◌, true, ◌≡◌, ◌≢◌, ◌↔◌, ◌⊎◌, List, [], ◌∷◌, ◌++◌, length, drop}
use Rattle.model.specs.Basic.{flat_map}
use Rattle.model.specs.declared.Stretch.{Stretch}
use Rattle.model.specs.Looked.{Value}
use Rattle.model.specs.Entry.{alive}
use Rattle.model.specs.Store.{next}
use Rattle.model.specs.Walk.{key_limit}
use Rattle.model.specs.Life.{life, stretch_numbers}
use Rattle.model.specs.Any.{lookup_any}
use Rattle.model.specs.Ended.{to_commit, to_life, ended}
use Rattle.promises.specs.Accepts.{Accepts, store_of}
use Rattle.promises.specs.Runs.{Turn, run_bytes, fitting, uncommitting, each}
use Rattle.promises.specs.Views.{SaysSame}

-- ---- "Each stretch takes three numbers .. 14 is given when the list holds fewer than that, with the count of stretches. Nothing behind is
-- touched": what the call gives and leaves

pub record StretchesGiven (b : List ℕ) (k : ℕ) (ns : List ℕ) : Type 0 where
  pub room : 3 * length (life (store_of b) k) ≤ length ns
      → ended (to_life k) b ns
      ≡ record {
        number = 0;
        results = length (life (store_of b) k) ∷ [];
        store = b;
        list = flat_map stretch_numbers (life (store_of b) k) ++ drop (3 * length (life (store_of b) k)) ns;
      }
  pub short : length ns < 3 * length (life (store_of b) k)
      → ended (to_life k) b ns ≡ record { number = 14; results = length (life (store_of b) k) ∷ []; store = b; list = ns }

abbrev pub LifeGiven : Type 0
LifeGiven = (b : List ℕ) → Accepts b → (k : ℕ) → k < key_limit → (ns : List ℕ) → StretchesGiven b k ns

-- ---- "every stretch of committed versions in which it held one value": lookups and lives never disagree

-- version v lies in one of the stretches, and its value is x
abbrev pub Lies : ℕ → ℕ → List Stretch → Type 0
Lies v x [] = ⊥
Lies v x (a ∷ more) = ((a.start ≤ v) × (v < a.end) × (a.value ≡ x)) ⊎ Lies v x more

-- a committed version shows the key with the value x exactly when it lies in a stretch with that value
abbrev pub LivesAgree : Type 0
LivesAgree = (b : List ℕ) → Accepts b → (k v x : ℕ) → k < key_limit → (store_of b).oldest ≤ v → v ≤ (store_of b).current
    → (lookup_any b k v ≡ Value x) ↔ Lies v x (life (store_of b) k)

-- ---- "oldest first"; "neighbouring stretches with equal values are joined and unequal ones aren't"

-- none is empty, each ends at or before the next one's start, and where two touch their values differ
abbrev pub Apart : List Stretch → Type 0
Apart [] = Unit {0}
Apart (a ∷ []) = a.start < a.end
Apart (a ∷ b ∷ more) = (a.start < a.end) × (a.end ≤ b.start) × (a.end ≡ b.start → a.value ≢ b.value) × Apart (b ∷ more)

-- "end (1,048,575 if still alive)": else it is a committed version
abbrev pub EndsBy : ℕ → List Stretch → Type 0
EndsBy current [] = Unit {0}
EndsBy current (a ∷ more) = ((a.end ≤ current) ⊎ (a.end ≡ alive)) × EndsBy current more

pub record StretchesApart : Type 0 where
  pub apart : (b : List ℕ) → Accepts b → (k : ℕ) → Apart (life (store_of b) k)
  pub ends : (b : List ℕ) (k : ℕ) → EndsBy (store_of b).current (life (store_of b) k)

-- ---- "an open update is not shown": opens, inserts, deletes and abandons leave what every life says; only a commit adds to it

abbrev pub OpenUnshown : Type 0
OpenUnshown = (b : List ℕ) → Accepts b → (ts : List Turn) → each fitting ts ≡ true → each uncommitting ts ≡ true
    → (k : ℕ) (ns : List ℕ) → SaysSame (ended (to_life k) (run_bytes b ts) ns) (ended (to_life k) b ns)

-- ---- a commit that leaves the key alone leaves every stretch as it was, and the one that is still alive so

abbrev pub LeftAlone : Type 0
LeftAlone = (b : List ℕ) → Accepts b → (ms : List ℕ) → (ended to_commit b ms).number ≡ 0
    → (k : ℕ) → lookup_any b k (next (store_of b)) ≡ lookup_any b k (store_of b).current
    → (ns : List ℕ) → SaysSame (ended (to_life k) (ended to_commit b ms).store ns) (ended (to_life k) b ns)
