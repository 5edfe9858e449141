-- Calls one after another, and what they leave. `least` is the edition's 4 (Limits).
-- Assumes nothing.
use Rattle.std.specs.Prelude.{ℕ, List, [], ◌∷◌}
use Rattle.model.specs.Store.{Store, fresh}
use Rattle.model.specs.Climb.{done, refused}
use Rattle.model.specs.Calls.{insert, delete, begin, commit, abandon, prune}
use Rattle.model.specs.Return.{Came, gave, gave_up, returned}

pub data Call : Type 0 where
  begins commits abandons : Call
  inserts : ℕ → ℕ → Call
  deletes : ℕ → Call
  returns : ℕ → Call
  prunes : ℕ → Call

abbrev pub call_by : ℕ → Store → Call → Came
call_by least s begins = gave (begin s)
call_by least s commits = gave (commit s)
call_by least s abandons = gave (abandon s)
call_by least s (inserts k x) = gave (insert least s k x)
call_by least s (deletes k) = gave (delete least s k)
call_by least s (returns v) = returned least s v
call_by least s (prunes v) = gave (prune least s v)

-- the store after a call, and the number that the call gave
pub record After : Type 0 where
  pub number : ℕ
  pub store : Store

-- "Every number but 0 leaves store and list untouched"; 2026-07 makes "the only exception".
abbrev pub after : Store → Came → After
after s (gave (done t)) = record { number = 0; store = t }
after s (gave (refused n)) = record { number = n; store = s }
after s (gave_up n t) = record { number = n; store = t }

abbrev pub run : ℕ → After → List Call → After
run least a [] = a
run least a (c ∷ cs) = run least (after a.store (call_by least a.store c)) cs

abbrev pub run_on : ℕ → Store → List Call → After
run_on least s cs = run least (record { number = 0; store = s }) cs

-- on a fresh store of n pages
abbrev pub from : ℕ → ℕ → List Call → After
from least n cs = run_on least (fresh n) cs
