-- The console works "in a store of up to 256 pages and with a list of 10,040 numbers, which no range there outgrows".
-- Assumes nothing.
use Rattle.std.specs.Prelude.{ℕ, ◌*◌, ◌-◌, ◌≤◌, ◌≡◌, ◌≢◌, List, length}
use Rattle.model.specs.Store.{last}
use Rattle.model.specs.Walk.{settings}
use Rattle.model.specs.Editions.{least_of}
use Rattle.model.specs.Ended.{to_range, ended}
use Rattle.promises.specs.Accepts.{Accepts, store_of}

pub record NoRangeOutgrows : Type 0 where
  -- No version has more settings than the pages from 5 on have room for, 20 each (edition 2: 40).
  pub most : (b : List ℕ) → Accepts b → (v : ℕ) → (store_of b).oldest ≤ v → v ≤ last (store_of b)
      → length (settings (store_of b) v) ≤ (length (store_of b).pages - 5) * (5 * least_of b)
  -- With 256 pages of edition 1 these are 5,020, which take 10,040 numbers.
  pub console : (b : List ℕ) → Accepts b → least_of b ≡ 4 → length (store_of b).pages ≤ 256 → (v : ℕ) → (store_of b).oldest ≤ v
      → v ≤ last (store_of b) → length (settings (store_of b) v) ≤ 5020
  -- So no range there gives 14.
  pub room : (b : List ℕ) → Accepts b → least_of b ≡ 4 → length (store_of b).pages ≤ 256 → (lo hi v : ℕ) (ns : List ℕ) → 10040 ≤ length ns
      → (ended (to_range lo hi v) b ns).number ≢ 14
