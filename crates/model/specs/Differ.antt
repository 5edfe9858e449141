-- 2026-03, "what differs between two versions?": "keys added, removed, or with another value, between any two readable versions, in key
-- order". That the list is complete, names nothing unchanged, and makes the second version's settings of the first's is proved: promises'
-- Differences.
-- Assumes nothing.
use Rattle.std.specs.Prelude.{ℕ, Bool, ◌||◌, not, List, [], ◌∷◌, ◌++◌, map, ltb, eqb}
use Rattle.std.proofs.Math.Option.{Option, none, some}
use Rattle.model.specs.Basic.{those, any, pick}
use Rattle.model.specs.declared.Pair.{Pair}
use Rattle.model.specs.declared.Delta.{Delta}
use Rattle.model.specs.Entry.{pair, enter_pair}
use Rattle.model.specs.Store.{Store}
use Rattle.model.specs.Walk.{find, settings}
use Rattle.model.specs.Calls.{rule, first_of, unreadable, Ranged}
use Rattle.model.specs.Told.{told_by}

-- "0 for added, 1 for removed or 2 for changed, the old value and the new, zero where there is none"
abbrev pub added : Pair → Delta
added y = record { key = y.key; kind = 0; old = 0; new = y.value }

abbrev pub removed : Pair → Delta
removed x = record { key = x.key; kind = 1; old = x.value; new = 0 }

abbrev pub changed : Pair → ℕ → Delta
changed x z = record { key = x.key; kind = 2; old = x.value; new = z }

-- a setting of the first version against the value that its key has in the second
abbrev pub against : Pair → Option ℕ → List Delta
against x none = removed x ∷ []
against x (some z) = pick (eqb x.value z) [] (changed x z ∷ [])

-- The settings of two versions, each in key order: what the second alone has below the first's first key, then that key, then the rest.
abbrev pub differ : List Pair → List Pair → List Delta
differ [] ys = map added ys
differ (x ∷ xs) ys =
    map added (those (λ (y : Pair). ltb y.key x.key) ys)
    ++ (against x (find x.key ys) ++ differ xs (those (λ (y : Pair). ltb x.key y.key) ys))

-- ---- reading such a list

-- what is to be said of a key, by its values in the two versions
abbrev pub says_of : ℕ → Option ℕ → Option ℕ → List Delta
says_of k none none = []
says_of k none (some y) = added (pair k y) ∷ []
says_of k (some x) o = against (pair k x) o

-- and what it says of it
abbrev pub of : ℕ → List Delta → List Delta
of k ds = those (λ (d : Delta). eqb d.key k) ds

-- the key stands in it
abbrev pub names : ℕ → List Delta → Bool
names k ds = any (λ (d : Delta). eqb d.key k) ds

-- "applying it": a removed key goes; one that is added or changed has the new value
abbrev pub applied_one : Delta → List Pair → List Pair
applied_one d us =
    let rest = those (λ (y : Pair). not (eqb y.key d.key)) us in
    pick (eqb d.kind 1) rest (enter_pair (pair d.key d.new) rest)

abbrev pub apply : List Delta → List Pair → List Pair
apply [] us = us
apply (d ∷ ds) us = apply ds (applied_one d us)

-- the two sides exchanged: what was added is removed, and the other way round
abbrev pub exchanged : Delta → Delta
exchanged d = record { key = d.key; kind = pick (eqb d.kind 0) 1 (pick (eqb d.kind 1) 0 d.kind); old = d.new; new = d.old }

-- ---- the call

-- "Each takes four numbers: key, 0 for added, 1 for removed or 2 for changed, the old value and the new"
abbrev pub delta_numbers : Delta → List ℕ
delta_numbers d = d.key ∷ d.kind ∷ d.old ∷ d.new ∷ []

-- 6 "version above last", or below the oldest: either of them, the open one is readable
abbrev pub either_unreadable : Store → ℕ → ℕ → Bool
either_unreadable s u v = unreadable s u || unreadable s v

-- From version u to version v. "14 is given when the list holds fewer than four numbers a difference"
unfoldable pub difference : (s : Store) (u v room : ℕ) → Ranged
difference s u v room = told_by delta_numbers 4 (first_of (rule 6 (either_unreadable s u v) ∷ [])) room (differ (settings s u) (settings s v))
