-- The calls on lent bytes taken as one: what any of them gives and leaves.
-- That no second outcome meets a contract, and that a number other than 0 leaves everything as it was, 2026-07's exception aside, stands in
-- proofs/Unique.
-- Assumes nothing.
use Rattle.std.specs.Prelude.{ℕ, Bool, true, false, ◌≡◌, ◌⊎◌, List, [], ◌∷◌, eqb}
use Rattle.model.specs.Basic.{all}
use Rattle.model.specs.Looked.{Looked}
use Rattle.model.specs.Verdict.{Verdict}
use Rattle.model.specs.State.{State}
use Rattle.model.specs.Layout.{bit}
use Rattle.model.specs.Judged.{judged}
use Rattle.model.specs.Calls.{looked_number, looked_found, looked_value}
use Rattle.model.specs.Any.{open_any, insert_any, delete_any, commit_any, abandon_any, return_any, prune_any, lookup_any, range_any, life_any}
use Rattle.model.specs.Any.{difference_any, visits_any, judged_any, state_any}
use Rattle.model.specs.Lent.{Outcome, Listed, open_lent, insert_lent, delete_lent, commit_lent, abandon_lent, return_lent, prune_lent}
use Rattle.model.specs.Lent.{fresh_lent, lookup_lent, range_lent, life_lent, difference_lent, visits_lent, state_lent}
use Rattle.model.specs.State.{state_numbers}

-- the calls, with the numbers that they take
pub data Asked : Type 0 where
  to_fresh to_fresh_second to_check to_open to_commit to_abandon to_state : Asked
  to_insert : ℕ → ℕ → Asked
  to_delete : ℕ → Asked
  to_return : ℕ → Asked
  to_prune : ℕ → Asked
  to_lookup : ℕ → ℕ → Asked
  to_range : ℕ → ℕ → ℕ → Asked
  to_visits : ℕ → ℕ → Asked
  to_difference : ℕ → ℕ → Asked
  to_life : ℕ → Asked

-- what a call gives and leaves: its number, its other results, the store's bytes and the caller's list after it
pub record Ended : Type 0 where
  pub number : ℕ
  pub results : List ℕ
  pub store : List ℕ
  pub list : List ℕ

abbrev pub of_outcome : List ℕ → Outcome → Ended
of_outcome ns o = record { number = o.number; results = []; store = o.store; list = ns }

abbrev pub of_verdict : List ℕ → List ℕ → Verdict → Ended
of_verdict b ns v = record { number = v.number; results = v.rule ∷ []; store = b; list = ns }

abbrev pub of_looked : List ℕ → List ℕ → Looked → Ended
of_looked b ns r = record { number = looked_number r; results = bit (looked_found r) ∷ looked_value r ∷ []; store = b; list = ns }

abbrev pub of_listed : List ℕ → Listed → Ended
of_listed b r = record { number = r.number; results = r.count ∷ []; store = b; list = r.list }

abbrev pub of_state : List ℕ → List ℕ → State → Ended
of_state b ns t = record { number = t.number; results = state_numbers t; store = b; list = ns }

-- what the definitions say of a call, for any bytes lent as a store and any list; making fresh is a call for each edition, and reads
-- nothing of the bytes but their length
abbrev pub ended : Asked → List ℕ → List ℕ → Ended
ended to_fresh b ns = of_outcome ns (fresh_lent 4 b)
ended to_fresh_second b ns = of_outcome ns (fresh_lent 8 b)
ended to_check b ns = of_verdict b ns (judged_any b)
ended to_open b ns = of_outcome ns (open_any b)
ended to_commit b ns = of_outcome ns (commit_any b)
ended to_abandon b ns = of_outcome ns (abandon_any b)
ended (to_insert k x) b ns = of_outcome ns (insert_any b k x)
ended (to_delete k) b ns = of_outcome ns (delete_any b k)
ended (to_return v) b ns = of_outcome ns (return_any b v)
ended (to_prune v) b ns = of_outcome ns (prune_any b v)
ended (to_lookup k v) b ns = of_looked b ns (lookup_any b k v)
ended (to_range lo hi v) b ns = of_listed b (range_any b lo hi v ns)
ended (to_visits k v) b ns = of_listed b (visits_any b k v ns)
ended (to_difference u v) b ns = of_listed b (difference_any b u v ns)
ended (to_life k) b ns = of_listed b (life_any b k ns)
ended to_state b ns = of_state b ns (state_any b)

-- a call's contract, said of an outcome
abbrev pub Meets : Asked → List ℕ → List ℕ → Ended → Type 0
Meets c b ns e = e ≡ ended c b ns

-- The same calls by the limits of one edition alone, in 01's order: with 4, what programs of edition 1 give. Making fresh makes a store of
-- that edition.
abbrev pub ended_by : ℕ → Asked → List ℕ → List ℕ → Ended
ended_by least to_fresh b ns = of_outcome ns (fresh_lent least b)
ended_by least to_fresh_second b ns = of_outcome ns (fresh_lent least b)
ended_by least to_check b ns = of_verdict b ns (judged least b)
ended_by least to_open b ns = of_outcome ns (open_lent least b)
ended_by least to_commit b ns = of_outcome ns (commit_lent least b)
ended_by least to_abandon b ns = of_outcome ns (abandon_lent least b)
ended_by least (to_insert k x) b ns = of_outcome ns (insert_lent least b k x)
ended_by least (to_delete k) b ns = of_outcome ns (delete_lent least b k)
ended_by least (to_return v) b ns = of_outcome ns (return_lent least b v)
ended_by least (to_prune v) b ns = of_outcome ns (prune_lent least b v)
ended_by least (to_lookup k v) b ns = of_looked b ns (lookup_lent least b k v)
ended_by least (to_range lo hi v) b ns = of_listed b (range_lent least b lo hi v ns)
ended_by least (to_visits k v) b ns = of_listed b (visits_lent least b k v ns)
ended_by least (to_difference u v) b ns = of_listed b (difference_lent least b u v ns)
ended_by least (to_life k) b ns = of_listed b (life_lent least b k ns)
ended_by least to_state b ns = of_state b ns (state_lent least b)

-- making fresh, for either edition: these calls read nothing of the bytes
abbrev pub makes : Asked → Bool
makes to_fresh = true
makes to_fresh_second = true
makes to_check = false
makes to_open = false
makes to_commit = false
makes to_abandon = false
makes (to_insert k x) = false
makes (to_delete k) = false
makes (to_return v) = false
makes (to_prune v) = false
makes (to_lookup k v) = false
makes (to_range lo hi v) = false
makes (to_visits k v) = false
makes (to_difference u v) = false
makes (to_life k) = false
makes to_state = false

-- store and list are as they were
pub record Untouched (b ns : List ℕ) (e : Ended) : Type 0 where
  pub store : e.store ≡ b
  pub list : e.list ≡ ns

-- 2026-07: a return that gives 12 or 13, "the only exception to demand 1's and 01's 'untouched'"
abbrev pub Excepted : Asked → ℕ → Type 0
Excepted c n = ((v : ℕ) × (c ≡ to_return v)) × ((n ≡ 12) ⊎ (n ≡ 13))

-- "any result not named here is 0": the numbers besides 0 that come with a result
abbrev pub Named : Asked → ℕ → Type 0
Named to_fresh n = ⊥
Named to_fresh_second n = ⊥
Named to_check n = n ≡ 4
Named to_open n = ⊥
Named to_commit n = ⊥
Named to_abandon n = ⊥
Named (to_insert k x) n = ⊥
Named (to_delete k) n = ⊥
Named (to_return v) n = ⊥
Named (to_prune v) n = ⊥
Named (to_lookup k v) n = ⊥
Named (to_range lo hi v) n = n ≡ 14
Named (to_visits k v) n = n ≡ 14
Named (to_difference u v) n = n ≡ 14
Named (to_life k) n = n ≡ 14
Named to_state n = ⊥

abbrev pub Zeros : List ℕ → Type 0
Zeros xs = all (λ (x : ℕ). eqb x 0) xs ≡ true

-- a refusal: the number, store and list as they were, and every result 0
pub record Refuses (n : ℕ) (b ns : List ℕ) (e : Ended) : Type 0 where
  pub number : e.number ≡ n
  pub untouched : Untouched b ns e
  pub zeros : Zeros e.results
