-- 2026-08, the converter: "A converter makes its target a fresh edition 2 store, which counts as making it fresh, and replays into it each
-- version's differences as 2026-07 does, bench keys let through, so that every committed version reads the same" (model's Convert). What it
-- gives and leaves, whatever bytes are lent as source b and as target t.
-- Assumes nothing.
use Rattle.std.specs.Prelude.{ℕ, ◌≤◌, false, ◌≡◌, ◌⊎◌, ◌≢◌, List}
use Rattle.model.specs.Store.{Store, fresh}
use Rattle.model.specs.Walk.{settings}
use Rattle.model.specs.Layout.{size_of, decode}
use Rattle.model.specs.Calls.{first_of}
use Rattle.model.specs.Return.{Ran, reached, stopped}
use Rattle.model.specs.Lent.{fresh_lent}
use Rattle.model.specs.Editions.{least_of}
use Rattle.model.specs.Any.{judged_any, lookup_any, range_any, difference_any, life_any}
use Rattle.model.specs.Convert.{replay, convert_tests, convert_lent}

-- the replay that the call makes
abbrev pub replay_of : List ℕ → List ℕ → Ran
replay_of b t = replay 8 (decode 4 b) 0 (decode 4 b).current (fresh (size_of 8 t))

-- ---- its number

pub record Numbers (b t : List ℕ) : Type 0 where
  -- that of the first refusal
  pub early : first_of (convert_tests b t) ≢ 0 → (convert_lent b t).number ≡ first_of (convert_tests b t)
  -- if none holds, 0, or "Where the replay gives 12 or 13, so does the converter": begin's 8 and 9, commit's 7, and 5, 10 and 11 of a step
  -- never come
  pub else : first_of (convert_tests b t) ≡ 0 → ((convert_lent b t).number ≡ 0)
      ⊎ (((convert_lent b t).number ≡ 12) ⊎ ((convert_lent b t).number ≡ 13))
  -- 0 exactly when each step is done,
  pub done : first_of (convert_tests b t) ≡ 0 → (convert_lent b t).number ≡ 0 → (u : Store) × (replay_of b t ≡ reached u)
  pub goes : first_of (convert_tests b t) ≡ 0 → (u : Store) → replay_of b t ≡ reached u → (convert_lent b t).number ≡ 0
  -- 12 or 13 exactly when the page rules of a step need what is not there
  pub lacks : first_of (convert_tests b t) ≡ 0 → (n : ℕ) → n ≢ 0 → (convert_lent b t).number ≡ n → (u : Store) × (replay_of b t ≡ stopped n u)
  pub stops : first_of (convert_tests b t) ≡ 0 → (n : ℕ) (u : Store) → replay_of b t ≡ stopped n u → (convert_lent b t).number ≡ n

-- ---- done: target bytes t'

pub record Converted (b t' : List ℕ) : Type 0 where
  -- a sound store of edition 2 with no update open, and the source's current version
  pub accepted : (judged_any t').number ≡ 0
  pub edition : least_of t' ≡ 8
  pub closed : (decode 8 t').opened ≡ false
  pub current : (decode 8 t').current ≡ (decode 4 b).current
  -- "so that every committed version reads the same"
  pub shows : (v : ℕ) → v ≤ (decode 4 b).current → settings (decode 8 t') v ≡ settings (decode 4 b) v
  -- by the calls, for any numbers: a version that there is not gives 6 in both
  pub lookups : (k v : ℕ) → lookup_any t' k v ≡ lookup_any b k v
  pub ranges : (lo hi v : ℕ) (ns : List ℕ) → range_any t' lo hi v ns ≡ range_any b lo hi v ns
  pub differences : (u v : ℕ) (ns : List ℕ) → difference_any t' u v ns ≡ difference_any b u v ns
  pub lives : (k : ℕ) (ns : List ℕ) → life_any t' k ns ≡ life_any b k ns

-- ---- 12 and 13: "the target is then a fresh edition 2 store", the one that making fresh makes of it

pub record Emptied (t t' : List ℕ) : Type 0 where
  pub made : (fresh_lent 8 t).number ≡ 0
  pub fresh : t' ≡ (fresh_lent 8 t).store

abbrev pub Lacks : ℕ → Type 0
Lacks n = (n ≡ 12) ⊎ (n ≡ 13)

-- ---- all of it. The source is no part of what a call leaves: it is only read.

pub record Converts : Type 0 where
  pub numbers : (b t : List ℕ) → Numbers b t
  pub done : (b t : List ℕ) → (convert_lent b t).number ≡ 0 → Converted b (convert_lent b t).store
  pub lacking : (b t : List ℕ) → Lacks (convert_lent b t).number → Emptied t (convert_lent b t).store
  -- "every other refusal leaves it untouched"
  pub untouched : (b t : List ℕ) → (convert_lent b t).number ≢ 0 → (Lacks (convert_lent b t).number → ⊥) → (convert_lent b t).store ≡ t
