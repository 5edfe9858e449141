-- 2026-12, "drop what the law lets us drop": when a prune is done, and what it leaves, whatever bytes it was lent. That later calls keep to
-- the rules is said of every call (`HistoryLent`).
-- Assumes nothing.
use Rattle.std.specs.Prelude.{ℕ, ◌≤◌, ◌<◌, true, false, ◌≡◌, ◌⊎◌, ◌↔◌, ◌≢◌, List, []}
use Rattle.model.specs.Basic.{has}
use Rattle.model.specs.Page.{free, is_free}
use Rattle.model.specs.Store.{page, free_ones, fresh}
use Rattle.model.specs.Walk.{key_limit}
use Rattle.model.specs.Layout.{encode}
use Rattle.model.specs.Editions.{least_of}
use Rattle.model.specs.Calls.{needed}
use Rattle.model.specs.Any.{judged_any}
use Rattle.model.specs.Ended.{to_open, to_prune, to_lookup, ended}
use Rattle.promises.specs.Accepts.{Accepts, store_of, OfEdition}
use Rattle.promises.specs.Runs.{Turn, run_bytes, fitting, each}
use Rattle.promises.specs.Views.{SameView, SameAnswers}
use Rattle.promises.specs.Demand2.{LackRefused}

-- ---- done exactly when: "A call with one version, at most the current one", not "below" the oldest, with no update open, in edition 2

pub record Prunable (b : List ℕ) (v : ℕ) : Type 0 where
  pub accepted : Accepts b
  pub edition : least_of b ≡ 8
  pub from : (store_of b).oldest ≤ v
  pub upto : v ≤ (store_of b).current
  pub shut : (store_of b).opened ≡ false

abbrev pub PruneDone : Type 0
PruneDone = (b : List ℕ) (v : ℕ) (ns : List ℕ) → ((ended (to_prune v) b ns).number ≡ 0) ↔ Prunable b v

-- "pruning edition 1 gives 3"
abbrev pub PruneFirst : Type 0
PruneFirst = (b : List ℕ) → Accepts b → least_of b ≡ 4 → (v : ℕ) (ns : List ℕ) → (ended (to_prune v) b ns).number ≡ 3

-- ---- bytes b' where b were

pub record Pruned (b : List ℕ) (v : ℕ) (b' : List ℕ) : Type 0 where
  pub accepted : Accepts b'
  -- "writes it into the header as the oldest version"; the rest of the header's words stay
  pub oldest : (store_of b').oldest ≡ v
  pub current : (store_of b').current ≡ (store_of b).current
  pub opened : (store_of b').opened ≡ (store_of b).opened
  -- "frees every page that ended at or before it", and leaves every other as it is
  pub freed : (n : ℕ) → (page (store_of b).pages n).end ≤ v → page (store_of b').pages n ≡ free
  pub stays : (n : ℕ) → v < (page (store_of b).pages n).end → page (store_of b').pages n ≡ page (store_of b).pages n
  -- "drops directory slots not needed from it on"
  pub slots : (store_of b').slots ≡ needed v (store_of b).slots
  -- every version from it on reads as before, by the same pages
  pub views : (u : ℕ) → v ≤ u → u ≤ (store_of b).current → SameView (store_of b) (store_of b') u
  pub answers : (u : ℕ) → v ≤ u → u ≤ (store_of b).current → SameAnswers b b' u
  -- those before it can be read no more
  pub gone : (k u : ℕ) (ns : List ℕ) → k < key_limit → u < v → (ended (to_lookup k u) b' ns).number ≡ 6
  -- the same prune again is done, and changes no byte
  pub again : (ns : List ℕ) → ended (to_prune v) b' ns ≡ record { number = 0; results = []; store = b'; list = ns }
  -- "freed pages are used again". The free pages then are those that were free, and those that were used and ended at or before the version
  -- ..
  pub spare : (n : ℕ) → has n (free_ones (store_of b').pages) ≡ true
      ↔ ((has n (free_ones (store_of b).pages) ≡ true)
      ⊎ ((is_free (page (store_of b).pages n) ≡ false) × ((page (store_of b).pages n).end ≤ v)))
  -- .. an update that is opened next begins with them ..
  pub begun : (ns : List ℕ) → (store_of (ended to_open b' ns).store).pages ≡ (store_of b').pages
  -- .. and after it, whatever calls come between, 12 is given exactly when the rules need a page and none is free, 13 so for a slot
  pub lacks : (ts : List Turn) (ns : List ℕ) → LackRefused (run_bytes b' ts) ns

abbrev pub PruneLeaves : Type 0
PruneLeaves = (b : List ℕ) (v : ℕ) (ns : List ℕ) → (ended (to_prune v) b ns).number ≡ 0 → Pruned b v (ended (to_prune v) b ns).store

-- ---- To the oldest version itself: done, and on a store that calls made, from a fresh one of either edition on, it changes no byte. (A
-- store lent from elsewhere can hold pages that ended by its oldest version; there they are freed.)

abbrev pub PruneIdle : Type 0
PruneIdle = (least : ℕ) → OfEdition least → (n : ℕ) → 6 ≤ n → n ≤ 4096 → (ts : List Turn) → each fitting ts ≡ true
    → (b : List ℕ) → run_bytes (encode least (fresh n)) ts ≡ b → least_of b ≡ 8 → (store_of b).opened ≡ false
    → (ns : List ℕ) → ended (to_prune (store_of b).oldest) b ns ≡ record { number = 0; results = []; store = b; list = ns }

-- ---- what a store that was never pruned keeps: check never answers 7 of it. Any store of edition 1 is one.

pub record NeverSeven : Type 0 where
  pub unpruned : (b : List ℕ) → (store_of b).oldest ≡ 0 → (judged_any b).rule ≢ 7
  pub first : (b : List ℕ) → least_of b ≡ 4 → (store_of b).oldest ≡ 0

pub record Prunes : Type 0 where
  pub done : PruneDone
  pub first : PruneFirst
  pub leaves : PruneLeaves
  pub idle : PruneIdle
  pub never-seven : NeverSeven
