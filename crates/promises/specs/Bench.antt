-- 2026-06, "keep the bench keys out": "Keys 16,776,960 and above belong to our test bench. Insert refuses them with 5. Lookup, range and
-- delete still take them, so that stores already shipped can be read and cleaned".
-- Assumes nothing.
use Rattle.std.specs.Prelude.{ℕ, ◌≤◌, Bool, true, false, ◌≡◌, List, leb, ltb}
use Rattle.model.specs.Basic.{all}
use Rattle.model.specs.declared.Pair.{Pair}
use Rattle.model.specs.Store
use Rattle.model.specs.Store.{Store, last}
use Rattle.model.specs.Walk.{settings}
use Rattle.model.specs.Layout.{encode}
use Rattle.model.specs.Calls.{bench_limit}
use Rattle.model.specs.Histories.{begins, commits, abandons, inserts, deletes, returns, prunes}
use Rattle.model.specs.Ended.{to_insert, ended}
use Rattle.promises.specs.Accepts.{Accepts, store_of, OfEdition}
use Rattle.promises.specs.Runs.{Turn, run_bytes, Kind, making, changing, reading, fitting, each}

-- from version u on, none has a bench key
abbrev pub BenchFree : ℕ → Store → Type 0
BenchFree u s = (v : ℕ) → u ≤ v → s.oldest ≤ v → v ≤ last s → all (λ (x : Pair). ltb x.key bench_limit) (settings s v) ≡ true

-- any call but making fresh, and a return to a version before u: "Bench keys from before 2026-06 are let through here" (2026-07)
abbrev pub not_behind : ℕ → Kind → Bool
not_behind u making = false
not_behind u (changing begins) = true
not_behind u (changing commits) = true
not_behind u (changing abandons) = true
not_behind u (changing (inserts k x)) = true
not_behind u (changing (deletes k)) = true
not_behind u (changing (returns v)) = leb u v
not_behind u (changing (prunes v)) = true
not_behind u reading = true

pub record KeptOut : Type 0 where
  -- whatever else speaks against the insert; by `refused` store and list are untouched
  pub five : (b : List ℕ) → Accepts b → (k x : ℕ) (ns : List ℕ) → bench_limit ≤ k → (ended (to_insert k x) b ns).number ≡ 5
  -- from a fresh store of either edition on, whatever is called
  pub fresh : (least : ℕ) → OfEdition least → (n : ℕ) → 6 ≤ n → n ≤ 4096 → (ts : List Turn) → each fitting ts ≡ true
      → BenchFree 0 (store_of (run_bytes (encode least (Store.fresh n)) ts))
  -- a store that is clean from its current version on stays so, whatever is called, short of making it fresh or returning to an older
  -- version
  pub cleaned : (b : List ℕ) → Accepts b → BenchFree (store_of b).current (store_of b)
      → (ts : List Turn) → each fitting ts ≡ true → each (not_behind (store_of b).current) ts ≡ true
      → BenchFree (store_of b).current (store_of (run_bytes b ts))
