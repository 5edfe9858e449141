-- Demand 3: "Take a sound store with no update open. Open one where that is accepted, make any sequence of inserts, deletes, reads and
-- refused calls inside it, with any splits and merges these cause, and abandon it. Every byte of the store is then what it was before the
-- opening, so each later call answers as if the update had never been."
-- Assumes nothing.
use Rattle.std.specs.Prelude.{ℕ, true, ◌≡◌, List, [], ◌∷◌, ◌++◌}
use Rattle.model.specs.Field.{Bytes}
use Rattle.model.specs.Ended.{Asked, to_open, to_abandon, ended}
use Rattle.promises.specs.Runs.{Turn, turned, run_bytes, fitting, inside, each}

abbrev pub opening : Turn
opening = record { call = to_open; list = [] }

abbrev pub abandoning : Turn
abandoning = record { call = to_abandon; list = [] }

-- after an update that held these calls and was abandoned
pub record Restored (b : List ℕ) (ts : List Turn) : Type 0 where
  -- the abandon is accepted
  pub accepted : (turned (run_bytes b (opening ∷ ts)) abandoning).number ≡ 0
  -- "Every byte of the store is then what it was before the opening"
  pub bytes : run_bytes b (opening ∷ (ts ++ (abandoning ∷ []))) ≡ b
  -- "each later call answers as if the update had never been"
  pub later : (c : Asked) (ns : List ℕ) → ended c (run_bytes b (opening ∷ (ts ++ (abandoning ∷ [])))) ns ≡ ended c b ns

-- An open is accepted on no other bytes than those of a sound store with no update open. The calls inside (`inside`) are all but abandon, a
-- commit that is done and a return that ends in 12 or 13, which end the update, and making fresh. "refused calls" are among them, a commit
-- refused by 15 too, and a return that is done: 2026-07, "Demand 3 takes a return that is done as one more call".
abbrev pub Abandoned : Type 0
Abandoned = (b : List ℕ) → Bytes b → (turned b opening).number ≡ 0
    → (ts : List Turn) → each fitting ts ≡ true → inside b (opening ∷ ts) ≡ true → Restored b ts
