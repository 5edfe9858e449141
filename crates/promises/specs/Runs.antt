-- Calls one after another on lent bytes.
-- Assumes nothing.
use Rattle.std.specs.Prelude.{ℕ, Bool, true, false, ◌&&◌, ◌||◌, not, List, [], ◌∷◌, eqb}
use Rattle.model.specs.Basic.{all}
use Rattle.model.specs.Return.{lacking}
use Rattle.model.specs.Histories.{Call, begins, commits, abandons, inserts, deletes, returns, prunes}
use Rattle.model.specs.Settings
use Rattle.model.specs.Lent.{Outcome}
use Rattle.model.specs.Ended.{Asked, to_fresh, to_fresh_second, to_check, to_open, to_commit, to_abandon, to_insert, to_delete, to_return, to_prune}
use Rattle.model.specs.Ended.{to_lookup, to_range, to_life, to_difference, to_visits, Ended, ended, to_state}

-- a call, and the list lent with it; each may bring another list
pub record Turn : Type 0 where
  pub call : Asked
  pub list : List ℕ

-- what it gives and leaves
abbrev pub turned : List ℕ → Turn → Ended
turned b t = ended t.call b t.list

-- the store's bytes after all of them
abbrev pub run_bytes : List ℕ → List Turn → List ℕ
run_bytes b [] = b
run_bytes b (t ∷ ts) = run_bytes (turned b t).store ts

-- and with them the number that the last one gave
abbrev pub run : Outcome → List Turn → Outcome
run o [] = o
run o (t ∷ ts) = run (record { number = (turned o.store t).number; store = (turned o.store t).store }) ts

-- ---- what kind of call it is: it makes fresh, it may change the store, or it only reads

pub data Kind : Type 0 where
  making : Kind
  changing : Call → Kind
  reading : Kind

abbrev pub kind_of : Asked → Kind
kind_of to_fresh = making
kind_of to_fresh_second = making
kind_of to_check = reading
kind_of to_open = changing begins
kind_of to_commit = changing commits
kind_of to_abandon = changing abandons
kind_of (to_insert k x) = changing (inserts k x)
kind_of (to_delete k) = changing (deletes k)
kind_of (to_return v) = changing (returns v)
kind_of (to_prune v) = changing (prunes v)
kind_of (to_lookup k v) = reading
kind_of (to_range lo hi v) = reading
kind_of (to_visits k v) = reading
kind_of (to_difference u v) = reading
kind_of (to_life k) = reading
kind_of to_state = reading

-- the call that asks for a change
abbrev pub asks : Call → Asked
asks begins = to_open
asks commits = to_commit
asks abandons = to_abandon
asks (inserts k x) = to_insert k x
asks (deletes k) = to_delete k
asks (returns v) = to_return v
asks (prunes v) = to_prune v

-- any call but making fresh
abbrev pub not_making : Kind → Bool
not_making making = false
not_making (changing c) = true
not_making reading = true

-- "a value is any 32 bits"
abbrev pub fitting : Kind → Bool
fitting making = true
fitting (changing c) = Settings.fits c
fitting reading = true

-- 2026-07: a return that ends in 12 or 13 "is itself the abandon"
abbrev pub gives_up : Kind → ℕ → Bool
gives_up making n = false
gives_up (changing begins) n = false
gives_up (changing commits) n = false
gives_up (changing abandons) n = false
gives_up (changing (inserts k x)) n = false
gives_up (changing (deletes k)) n = false
gives_up (changing (returns v)) n = lacking n
gives_up (changing (prunes v)) n = false
gives_up reading n = false

-- A call, by the number that it gave, that leaves an open update open: all but making fresh and a return that is the abandon; commit and
-- abandon only if refused, as a commit is by 15.
abbrev pub staying : Kind → ℕ → Bool
staying making n = false
staying (changing c) n = not (gives_up (changing c) n) && (Settings.is_inside c || not (eqb n 0))
staying reading n = true

-- each of a list of calls, made one after the other on bytes
abbrev pub inside : List ℕ → List Turn → Bool
inside b [] = true
inside b (t ∷ ts) = staying (kind_of t.call) (turned b t).number && inside (turned b t).store ts

-- all but making fresh, commit and prune: the committed versions that are kept are the same ones after it
abbrev pub uncommitting : Kind → Bool
uncommitting making = false
uncommitting (changing begins) = true
uncommitting (changing commits) = false
uncommitting (changing abandons) = true
uncommitting (changing (inserts k x)) = true
uncommitting (changing (deletes k)) = true
uncommitting (changing (returns v)) = true
uncommitting (changing (prunes v)) = false
uncommitting reading = true

-- each call of a list so
abbrev pub each : (Kind → Bool) → List Turn → Bool
each f ts = all (λ (t : Turn). f (kind_of t.call)) ts
