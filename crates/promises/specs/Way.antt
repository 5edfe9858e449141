-- A history, state by state: the bytes, the pages that the rules make, and the machine of plain settings beside them.
-- Assumes nothing.
use Rattle.std.specs.Prelude.{ℕ, ◌≤◌, true, ◌||◌, ◌≡◌, List, [], ◌∷◌, leb, eqb, length}
use Rattle.model.specs.Basic.{all, pick}
use Rattle.model.specs.Field.{Bytes}
use Rattle.model.specs.Page.{pairs_at}
use Rattle.model.specs.Store.{Store, page, fresh, last}
use Rattle.model.specs.Walk.{Seen, seen, root_at}
use Rattle.model.specs.Layout.{encode, size_of}
use Rattle.model.specs.Judged.{length_ok}
use Rattle.model.specs.Editions.{least_of}
use Rattle.model.specs.Histories.{Call, begins, commits, abandons, inserts, deletes, returns, prunes, call_by, after}
use Rattle.model.specs.Ended.{Asked, to_fresh, to_fresh_second, to_check, to_open, to_commit, to_abandon, to_insert, to_delete, to_return, to_prune}
use Rattle.model.specs.Ended.{to_lookup, to_range, to_visits, to_difference, to_life, to_state}
use Rattle.promises.specs.Accepts.{store_of}
use Rattle.promises.specs.Runs.{Turn}
use Rattle.promises.specs.Beside.{Beside, onward}
use Rattle.promises.specs.Answers.{Answers}

-- a store, and its edition by its least
pub record EditionStore : Type 0 where
  pub least : ℕ
  pub store : Store

abbrev pub ruled_of : List ℕ → EditionStore
ruled_of b = record { least = least_of b; store = store_of b }

-- ---- the store that the page rules (model's Rules, Climb and Calls) make of a call

abbrev pub changed_by : EditionStore → Call → EditionStore
changed_by r c = record { least = r.least; store = (after r.store (call_by r.least r.store c)).store }

-- making fresh: of the bytes only their length counts, which all calls leave
abbrev pub remade_by : ℕ → List ℕ → EditionStore → EditionStore
remade_by least b r = pick (length_ok least b) (record { least = least; store = fresh (size_of least b) }) r

abbrev pub ruled_by : List ℕ → EditionStore → Asked → EditionStore
ruled_by b r to_fresh = remade_by 4 b r
ruled_by b r to_fresh_second = remade_by 8 b r
ruled_by b r to_check = r
ruled_by b r to_open = changed_by r begins
ruled_by b r to_commit = changed_by r commits
ruled_by b r to_abandon = changed_by r abandons
ruled_by b r (to_insert k x) = changed_by r (inserts k x)
ruled_by b r (to_delete k) = changed_by r (deletes k)
ruled_by b r (to_return v) = changed_by r (returns v)
ruled_by b r (to_prune v) = changed_by r (prunes v)
ruled_by b r (to_lookup k v) = r
ruled_by b r (to_range lo hi v) = r
ruled_by b r (to_visits k v) = r
ruled_by b r (to_difference u v) = r
ruled_by b r (to_life k) = r
ruled_by b r to_state = r

-- ---- every state on the way, the first and the last among them

abbrev pub EachState : (Beside → EditionStore → Type 0) → Beside → EditionStore → List Turn → Type 0
EachState P x r [] = P x r
EachState P x r (t ∷ ts) = P x r × EachState P (onward x t) (ruled_by x.bytes r t.call) ts

-- "Every page that a version reaches, its root aside, holds at least four entries alive at that version."
abbrev pub BalancedIn : EditionStore → Type 0
BalancedIn r = (v : ℕ) → r.store.oldest ≤ v → v ≤ last r.store
    → all
    (λ (x : Seen). eqb x.number (root_at r.store.slots v) || leb r.least (length (pairs_at v (page r.store.pages x.number))))
    (seen r.store v) ≡ true

-- a state on the way from the lent bytes b
pub record LentState (b : List ℕ) (x : Beside) (r : EditionStore) : Type 0 where
  pub answers : Answers x
  -- "After every call the pages are byte for byte what the published page rules, as fixed in document 01, produce."
  pub bytes : Bytes b → x.bytes ≡ encode r.least r.store
  pub balanced : BalancedIn r

-- a state on the way from a fresh store
pub record FreshState (x : Beside) (r : EditionStore) : Type 0 where
  pub answers : Answers x
  pub bytes : x.bytes ≡ encode r.least r.store
  pub balanced : BalancedIn r
  -- "Version 0 is empty."
  pub empty : x.machine.shows 0 ≡ []
