-- 2026-01, "when was this setting changed?": "the life of one key: every stretch of committed versions in which it held one value, oldest
-- first". That lookups and lives never disagree, and that stretches stand apart and in order, is proved: promises' Lives.
-- Assumes nothing.
use Rattle.std.specs.Prelude.{ℕ, suc, ◌-◌, Bool, ◌&&◌, List, [], ◌∷◌, map, leb, ltb, eqb}
use Rattle.std.proofs.Math.Option.{Option, none, some}
use Rattle.model.specs.Basic.{pick, flat_map, count}
use Rattle.model.specs.declared.Stretch.{Stretch}
use Rattle.model.specs.Entry.{alive}
use Rattle.model.specs.Store.{Store}
use Rattle.model.specs.Walk.{key_limit, lookup}
use Rattle.model.specs.Calls.{rule, first_of, Ranged}
use Rattle.model.specs.Told.{told_by}

-- one version by itself: a stretch where a lookup finds a value there, none where the key is absent
abbrev pub alone : ℕ → Option ℕ → List Stretch
alone v none = []
alone v (some x) = record { start = v; end = suc v; value = x } ∷ []

-- "neighbouring stretches with equal values are joined and unequal ones aren't"
abbrev pub touch : Stretch → Stretch → Bool
touch a b = eqb a.end b.start && eqb a.value b.value

abbrev pub join : Stretch → List Stretch → List Stretch
join a [] = a ∷ []
join a (b ∷ bs) = pick (touch a b) (record { start = a.start; end = b.end; value = a.value } ∷ bs) (a ∷ b ∷ bs)

abbrev pub joined : List Stretch → List Stretch
joined [] = []
joined (a ∷ bs) = join a (joined bs)

-- "end (1,048,575 if still alive)": the current version is in it
abbrev pub shown_to : ℕ → Stretch → Stretch
shown_to current a = record { start = a.start; end = pick (ltb current a.end) alive a.end; value = a.value }

-- the committed versions in turn, "oldest first", each with its answer; "an open update is not shown". 2026-12: "2026-01 starts its
-- stretches at the oldest".
unfoldable pub life_of : ℕ → ℕ → (ℕ → Option ℕ) → List Stretch
life_of old current answer = map (shown_to current) (joined (flat_map (λ (v : ℕ). alone v (answer v)) (count old (suc current - old))))

abbrev pub life : Store → ℕ → List Stretch
life s k = life_of s.oldest s.current (lookup s k)

-- "Each stretch takes three numbers: start, end .. and value"
abbrev pub stretch_numbers : Stretch → List ℕ
stretch_numbers a = a.start ∷ a.end ∷ a.value ∷ []

-- "Refusals 1 to 5 and 14 apply as in 01, in that order": 5 "key too large"; "14 is given when the list holds fewer than that"
unfoldable pub lived : Store → ℕ → ℕ → Ranged
lived s k room = told_by stretch_numbers 3 (first_of (rule 5 (leb key_limit k) ∷ [])) room (life s k)
