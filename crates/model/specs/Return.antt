-- 2026-07, "return to an earlier version": "Inside an open update, one call makes the open version's settings equal those of a committed
-- version". That it does, that no step gives a number but 12 or 13, and that a return which ends so is the abandon, is proved: promises'
-- Returns.
-- Assumes nothing.
use Rattle.std.specs.Prelude.{ℕ, zero, suc, Bool, ◌||◌, not, List, [], ◌∷◌, leb, eqb}
use Rattle.model.specs.Basic.{those, pick}
use Rattle.model.specs.declared.Delta.{Delta}
use Rattle.model.specs.Store.{Store, next}
use Rattle.model.specs.Walk.{key_limit, settings, lookup}
use Rattle.model.specs.Climb.{Result, done, refused}
use Rattle.model.specs.Calls.{is_some, Rule, rule, numbered, first_of, beyond, raw_insert, delete, abandoned}
use Rattle.model.specs.Differ.{differ}

-- ---- its steps, by what differs (2026-03) from the open version to that one; the differences stand in key order, "each in rising key
-- order"

-- "first it deletes keys absent there or with another value": what is removed or changed
abbrev pub goes : Delta → Bool
goes d = not (eqb d.kind 0)

-- "then it inserts what is missing": what is added, or changed, and deleted by then
abbrev pub comes : Delta → Bool
comes d = not (eqb d.kind 1)

-- "each exactly as the single call"
abbrev pub end_one : ℕ → Store → Delta → Result
end_one least s d = delete least s d.key

-- "Bench keys from before 2026-06 are let through here": an insert whose 5 is "key too large" alone
abbrev pub set_tests : ℕ → Bool → Bool → List Rule
set_tests k opened alive = rule 5 (leb key_limit k) ∷ rule 7 (not opened) ∷ rule 10 alive ∷ []

unfoldable pub set_one : ℕ → Store → Delta → Result
set_one least s d = numbered (set_tests d.key s.opened (is_some (lookup s d.key (next s)))) (raw_insert least s d.key d.new)

-- ---- steps one after another

-- all are done; or one is refused: its number, and the store as it stands there
pub data Ran : Type 0 where
  reached : Store → Ran
  stopped : ℕ → Store → Ran

abbrev pub or_stopped : (Store → Ran) → Store → Result → Ran
or_stopped go s (done t) = go t
or_stopped go s (refused n) = stopped n s

unfoldable pub through : (Store → Delta → Result) → List Delta → Store → Ran
through one [] s = reached s
through one (d ∷ ds) s = or_stopped (through one ds) s (one s d)

abbrev pub and_on : (Store → Ran) → Ran → Ran
and_on go (reached t) = go t
and_on go (stopped n t) = stopped n t

-- both runs, by the differences at the call
unfoldable pub carried : ℕ → List Delta → Store → Ran
carried least ds s = and_on (through (set_one least) (those comes ds)) (through (end_one least) (those goes ds) s)

-- ---- the call

-- what a call comes to: its result; or, of a return alone, the number of the step that met it, and the store after the abandon
pub data Came : Type 0 where
  gave : Result → Came
  gave_up : ℕ → Store → Came

-- "If any step gives 12 or 13"
abbrev pub lacking : ℕ → Bool
lacking n = eqb n 12 || eqb n 13

-- "the whole update is abandoned, its earlier calls included, and the number returned"
abbrev pub or_abandoned : Ran → Came
or_abandoned (reached t) = gave (done t)
or_abandoned (stopped n t) = pick (lacking n) (gave_up n (abandoned t)) (gave (refused n))

-- "The call gives 6 for a version above the current one, and 7, whose row gains it, with no update open." 2026-12: "Versions below [the
-- oldest] give 6".
abbrev pub return_tests : ℕ → ℕ → Bool → ℕ → List Rule
return_tests old current opened v = rule 6 (beyond current old v) ∷ rule 7 (not opened) ∷ []

abbrev pub unless : ℕ → Came → Came
unless zero c = c
unless (suc n) c = gave (refused (suc n))

unfoldable pub returned : ℕ → Store → ℕ → Came
returned least s v =
    unless (first_of (return_tests s.oldest s.current s.opened v))
    (or_abandoned (carried least (differ (settings s (next s)) (settings s v)) s))
