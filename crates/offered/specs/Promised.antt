-- What is promised of one call: of the bytes b and the list ns that were lent, and of what the call gave and left, e.
-- Assumes nothing.
use Rattle.std.specs.Prelude.{ℕ, Bool, true, ◌≡◌, ◌≢◌, List}
use Rattle.model.specs.Ended.{Asked, Ended, Meets, Untouched, Excepted, Named, Zeros}
use Rattle.model.specs.Editions.{least_of}
use Rattle.model.specs.Lent.{leaving}
use Rattle.model.specs.Convert.{convert_lent}
use Rattle.promises.specs.Accepts.{Accepts}
use Rattle.promises.specs.Runs.{kind_of, fitting}
use Rattle.promises.specs.Demand1.{judges_all, TurnedAway}
use Rattle.promises.specs.Converts.{Converted, Emptied, Lacks}
use Rattle.plain.specs.Guard.{is_lent, read_plain, Spared}
use Rattle.auditor.specs.Engine.{Plainly, plainly}
use Rattle.auditor.specs.Linked.{HasRoom}
use Rattle.auditor.specs.LinkedRun.{Called}

pub record Promised (c : Asked) (b ns : List ℕ) (e : Ended) : Type 0 where
  -- It is what the definitions say of the call, so that all that is promised of `ended` is promised of it; and nothing else is.
  pub meets : Meets c b ns e
  pub only : (f : Ended) → Meets c b ns f → f ≡ e
  -- "A refused call changes no byte of the store or of the caller's list", "any result not named here is 0"
  pub refused : e.number ≢ 0 → (Excepted c e.number → ⊥) → Untouched b ns e
  pub blank : e.number ≢ 0 → (Named c e.number → ⊥) → Zeros e.results
  -- "judges the store itself before it trusts it"
  pub untrusted : judges_all (least_of b) c ≡ true → (Accepts b → ⊥) → TurnedAway b ns e
  -- a sound store stays sound
  pub stays : Accepts b → fitting (kind_of c) ≡ true → Accepts e.store

-- a call's number, results, store and list
abbrev pub gave : ℕ → List ℕ → List ℕ → List ℕ → Ended
gave n rs q ms = record { number = n; results = rs; store = q; list = ms }

-- What is promised of the converter: of the source b and the target t that were lent, the number n, and the target after it. The source is
-- only read.
pub record Conversion (b t : List ℕ) (n : ℕ) (t' : List ℕ) : Type 0 where
  pub meets : leaving n t' ≡ convert_lent b t
  pub done : n ≡ 0 → Converted b t'
  pub lacking : Lacks n → Emptied t t'
  pub untouched : n ≢ 0 → (Lacks n → ⊥) → t' ≡ t

-- What is promised of one call of the plain engine (2026-10): of the items ns, the state ms and the caller's list us that were lent, of
-- what the call gave, f, and of the items ns' and the state ms' that it left. `lent` is the test whose failing gives 4: an open has no list
-- to test.
pub record PlainPromised (lent : Bool) (c : Asked) (ns ms us : List ℕ) (f : Plainly) (ns' ms' : List ℕ) : Type 0 where
  -- by its contract, and what is left of a plain store can be lent to the next call; so `linked-run` of the auditor speaks of it
  pub called : Called c ns ms us f ns' ms'
  -- Lent with its room, it is the call of which the auditor's theorem speaks.
  pub linked : is_lent ns ms ≡ true → HasRoom c ns ms us → f ≡ plainly c (read_plain ns ms) us
  -- what is no plain store is left as it is, number for number
  pub spared : Spared lent ms ms'
  pub untouched : Spared lent ns ns'

-- a plain call's number and results, the items, the state and the list after it
abbrev pub plain_gave : ℕ → List ℕ → List ℕ → List ℕ → List ℕ → Plainly
plain_gave n rs ns ms us = record { number = n; results = rs; plain = read_plain ns ms; list = us }
