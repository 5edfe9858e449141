-- What a store tells of itself: the call state, on accepted bytes.
-- That bytes which check does not accept get check's number, with all told 0 and nothing touched, is `judges`, `untrusted` and `blank`;
-- that from a fresh store on the current version, whether an update is open and the oldest version are the plain machine's is `history`
-- (Answers, field `state`).
-- Assumes nothing.
use Rattle.std.specs.Prelude.{ℕ, ◌*◌, true, ◌≡◌, ◌↔◌, List, length}
use Rattle.model.specs.State.{state_of}
use Rattle.model.specs.Editions.{least_of}
use Rattle.model.specs.Ended.{to_abandon, to_state, ended, of_state}
use Rattle.promises.specs.Accepts.{Accepts, store_of}

pub record StateSays (b : List ℕ) : Type 0 where
  -- it is the state of the store that the bytes hold, and nothing is touched
  pub told : (ns : List ℕ) → ended to_state b ns ≡ of_state b ns (state_of (least_of b) (store_of b))
  -- its pages are the bytes lent, no more and no fewer
  pub pages : (state_of (least_of b) (store_of b)).pages * (64 * least_of b) ≡ length b
  -- an update that is told to be open is one that an abandon ends, and there is no other
  pub opened : (ns : List ℕ) → (state_of (least_of b) (store_of b)).opened ≡ true ↔ (ended to_abandon b ns).number ≡ 0

abbrev pub StateTold : Type 0
StateTold = (b : List ℕ) → Accepts b → StateSays b
