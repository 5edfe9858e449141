-- Request 2026-13, "old readings by the same pages": "Our support desk wants a firmer word than equal answers: for a committed version, the
-- page numbers that a lookup visits, in order, are the same after any later accepted calls, up to a prune above that version. Conversion to
-- edition 2 and making fresh aren't such calls."
-- `lookup_visits` (model's Walk) is the list of those page numbers, from the root down to the leaf; the call visits tells it (`to_visits`),
-- by the steps that the lookup itself takes (crates/walk).
-- Assumes nothing.
use Rattle.std.specs.Prelude.{ℕ, ◌≤◌, ◌<◌, true, ◌≡◌, List, [], ◌∷◌, ◌++◌, length, drop}
use Rattle.model.specs.Store.{last}
use Rattle.model.specs.Walk.{key_limit, lookup_visits}
use Rattle.model.specs.Ended.{to_visits, ended}
use Rattle.promises.specs.Accepts.{Accepts, store_of}
use Rattle.promises.specs.Runs.{Turn, run_bytes, not_making, fitting, each}
use Rattle.promises.specs.Views.{SaysSame}

-- For a version v that the store has committed, and any key: the page numbers are the same after any later calls, refused ones among them,
-- but making fresh, and prunes to versions up to this one.
abbrev pub PagesStay : Type 0
PagesStay = (b : List ℕ) → Accepts b → (ts : List Turn) → each fitting ts ≡ true → each not_making ts ≡ true → (v : ℕ)
    → (store_of (run_bytes b ts)).oldest ≤ v → v ≤ (store_of b).current → (k : ℕ)
    → lookup_visits (store_of (run_bytes b ts)) k v ≡ lookup_visits (store_of b) k v

-- The desk can see them: where the list has room the call gives their count, writes them in that order, and leaves the rest of the list.
abbrev pub VisitsTold : Type 0
VisitsTold =
    (b : List ℕ) → Accepts b → (k v : ℕ) → k < key_limit → (store_of b).oldest ≤ v → v ≤ last (store_of b) → (ns : List ℕ)
    → length (lookup_visits (store_of b) k v) ≤ length ns
    → ended (to_visits k v) b ns
    ≡ record {
      number = 0;
      results = length (lookup_visits (store_of b) k v) ∷ [];
      store = b;
      list = lookup_visits (store_of b) k v ++ drop (length (lookup_visits (store_of b) k v)) ns;
    }

-- So, with the same list lent, it says the same before those later calls and after them: number, count, and what it wrote.
abbrev pub VisitsStay : Type 0
VisitsStay = (b : List ℕ) → Accepts b → (ts : List Turn) → each fitting ts ≡ true → each not_making ts ≡ true
    → (v : ℕ) → (store_of (run_bytes b ts)).oldest ≤ v → v ≤ (store_of b).current → (k : ℕ) (ns : List ℕ)
    → SaysSame (ended (to_visits k v) (run_bytes b ts) ns) (ended (to_visits k v) b ns)
