-- 2026-07, "return to an earlier version": "Inside an open update, one call makes the open version's settings equal those of a committed
-- version", "each exactly as the single call" (model's Return). What a return leaves, whatever bytes it was lent.
-- Assumes nothing.
use Rattle.std.specs.Prelude.{ℕ, ◌≤◌, true, ◌≡◌, ◌⊎◌, List, [], ◌∷◌, ◌++◌, map, ltb}
use Rattle.model.specs.Basic.{all, those}
use Rattle.model.specs.declared.Pair.{Pair}
use Rattle.model.specs.declared.Delta.{Delta}
use Rattle.model.specs.Field.{Bytes}
use Rattle.model.specs.Store.{next}
use Rattle.model.specs.Walk.{settings}
use Rattle.model.specs.Calls.{first_of, bench_limit}
use Rattle.model.specs.Return.{goes, comes, return_tests}
use Rattle.model.specs.Histories.{Call, inserts, deletes}
use Rattle.model.specs.Ended.{Asked, to_abandon, to_return, to_difference, ended}
use Rattle.promises.specs.Accepts.{Accepts, store_of}
use Rattle.promises.specs.Runs.{Turn, turned, run_bytes, fitting, inside, each}
use Rattle.promises.specs.Answers.{Gives}
use Rattle.promises.specs.Views.{SameView}
use Rattle.promises.specs.Demand3.{opening}
use Rattle.promises.specs.Differences.{differences}
use Rattle.promises.specs.Replayed.{turn_of}

-- ---- its number: 1 to 4 as every call's (`Judges`); then "6 for a version above the current one, and 7 .. with no update open"; else 0,
-- 12 or 13

abbrev pub ReturnGives : Type 0
ReturnGives = (b : List ℕ) → Accepts b → (v : ℕ) (ns : List ℕ)
    → Gives (first_of (return_tests (store_of b).oldest (store_of b).current (store_of b).opened v)) (ended (to_return v) b ns).number

-- ---- done: bytes b' where b were

pub record Returned (b : List ℕ) (v : ℕ) (b' : List ℕ) : Type 0 where
  -- the store is sound, and the update still open, at the same version
  pub accepted : Accepts b'
  pub opened : (store_of b').opened ≡ true
  pub current : (store_of b').current ≡ (store_of b).current
  -- "the open version's settings equal those of a committed version"
  pub shows : settings (store_of b') (next (store_of b')) ≡ settings (store_of b) v
  -- every committed version is as it was, pages and all
  pub older : (u : ℕ) → (store_of b).oldest ≤ u → u ≤ (store_of b).current → SameView (store_of b) (store_of b') u
  -- nothing differs (2026-03) from that version to the open one
  pub nothing-differs : (ns : List ℕ) → ended (to_difference v (next (store_of b'))) b' ns
      ≡ record { number = 0; results = 0 ∷ []; store = b'; list = ns }

abbrev pub ReturnDone : Type 0
ReturnDone = (b : List ℕ) (v : ℕ) (ns : List ℕ) → (ended (to_return v) b ns).number ≡ 0 → Returned b v (ended (to_return v) b ns).store

-- ---- "first it deletes .., then it inserts .., each in rising key order and each exactly as the single call": done, it leaves the bytes
-- that these calls leave, made one after the other. A bench key's insert would be refused, so there is none on either side.

abbrev pub steps_of : List Delta → List Call
steps_of ds = map (λ (d : Delta). deletes d.key) (those goes ds) ++ map (λ (d : Delta). inserts d.key d.new) (those comes ds)

abbrev pub NoBench : List Pair → Type 0
NoBench us = all (λ (x : Pair). ltb x.key bench_limit) us ≡ true

abbrev pub ReturnSingly : Type 0
ReturnSingly = (b : List ℕ) → Bytes b → (v : ℕ) (ns : List ℕ) → (ended (to_return v) b ns).number ≡ 0
    → NoBench (settings (store_of b) (next (store_of b))) → NoBench (settings (store_of b) v)
    → run_bytes b (map turn_of (steps_of (differences (store_of b) (next (store_of b)) v))) ≡ (ended (to_return v) b ns).store

-- ---- nothing to do is done, and changes no byte

abbrev pub ReturnNothing : Type 0
ReturnNothing = (b : List ℕ) → Bytes b → Accepts b → (store_of b).opened ≡ true
    → (v : ℕ) → (store_of b).oldest ≤ v → v ≤ (store_of b).current → settings (store_of b) (next (store_of b)) ≡ settings (store_of b) v
    → (ns : List ℕ) → ended (to_return v) b ns ≡ record { number = 0; results = []; store = b; list = ns }

-- ---- "If any step gives 12 or 13, the whole update is abandoned, its earlier calls included, and the number returned"

-- it leaves the bytes that an abandon leaves, which would have been accepted, and the list
pub record Stopped (b : List ℕ) (v : ℕ) (ns : List ℕ) : Type 0 where
  pub store : (ended (to_return v) b ns).store ≡ (ended to_abandon b ns).store
  pub list : (ended (to_return v) b ns).list ≡ ns
  pub abandons : (ended to_abandon b ns).number ≡ 0

abbrev pub Stops : ℕ → Type 0
Stops n = (n ≡ 12) ⊎ (n ≡ 13)

abbrev pub ReturnStopped : Type 0
ReturnStopped = (b : List ℕ) (v : ℕ) (ns : List ℕ) → Stops (ended (to_return v) b ns).number → Stopped b v ns

-- ---- demand 3: "one that ends in 12 or 13 is itself the abandon". An update opened on bytes b that held these calls, and then that return

abbrev pub returning : ℕ → Turn
returning v = record { call = to_return v; list = [] }

pub record ReturnRestores (b : List ℕ) (ts : List Turn) (v : ℕ) : Type 0 where
  -- every byte of the store is what it was before the opening
  pub bytes : run_bytes b (opening ∷ (ts ++ (returning v ∷ []))) ≡ b
  -- each later call answers as if the update had never been
  pub later : (c : Asked) (ns : List ℕ) → ended c (run_bytes b (opening ∷ (ts ++ (returning v ∷ [])))) ns ≡ ended c b ns

abbrev pub ReturnAbandons : Type 0
ReturnAbandons = (b : List ℕ) → Bytes b → (turned b opening).number ≡ 0
    → (ts : List Turn) → each fitting ts ≡ true → inside b (opening ∷ ts) ≡ true
    → (v : ℕ) → Stops (turned (run_bytes b (opening ∷ ts)) (returning v)).number → ReturnRestores b ts v

pub record Returns : Type 0 where
  pub gives : ReturnGives
  pub done : ReturnDone
  pub singly : ReturnSingly
  pub nothing : ReturnNothing
  pub stopped : ReturnStopped
  pub abandons : ReturnAbandons
