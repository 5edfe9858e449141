-- Lists that would be signed, worked out by hand: 2026-03's differences on a sample store and on plain settings.
-- Assumes nothing.
use Rattle.std.specs.Prelude.{ℕ, List, [], ◌∷◌}
use Rattle.model.specs.Basic.{flat_map}
use Rattle.model.specs.Entry.{pair}
use Rattle.model.specs.Calls.{Ranged}
use Rattle.model.specs.Differ.{differ, delta_numbers, difference}
use Rattle.model.specs.Samples.{two_levels}

abbrev answer : ℕ → ℕ → List ℕ → Ranged
answer n c ns = record { number = n; count = c; written = ns }

-- Version 2, open, has the keys 50 to 80 that version 1 has not; keys 10 to 40 stand in another page. From 1 to 2, from 2 to 1, from a
-- version to itself, in a list one number too short, and with a version above last on either side or on both.
abbrev pub asked : List Ranged
asked =
    difference two_levels 1 2 16 ∷ difference two_levels 2 1 17 ∷ difference two_levels 1 1 0 ∷ difference two_levels 1 2 15
    ∷ difference two_levels 3 1 0 ∷ difference two_levels 1 3 0 ∷ difference two_levels 3 3 0 ∷ []

abbrev pub answered : List Ranged
answered =
    answer 0 4 (50 ∷ 0 ∷ 0 ∷ 150 ∷ 60 ∷ 0 ∷ 0 ∷ 160 ∷ 70 ∷ 0 ∷ 0 ∷ 170 ∷ 80 ∷ 0 ∷ 0 ∷ 180 ∷ [])
    ∷ answer 0 4 (50 ∷ 1 ∷ 150 ∷ 0 ∷ 60 ∷ 1 ∷ 160 ∷ 0 ∷ 70 ∷ 1 ∷ 170 ∷ 0 ∷ 80 ∷ 1 ∷ 180 ∷ 0 ∷ [])
    ∷ answer 0 0 [] ∷ answer 14 4 [] ∷ answer 6 0 [] ∷ answer 6 0 [] ∷ answer 6 0 [] ∷ []

-- Removed, changed from 0, added with 0, changed to 0, unchanged: 0 is a value too, and the kind tells.
abbrev pub signed : List ℕ
signed =
    flat_map delta_numbers (differ (pair 1 5 ∷ pair 2 0 ∷ pair 4 9 ∷ pair 6 8 ∷ []) (pair 2 7 ∷ pair 3 0 ∷ pair 4 0 ∷ pair 6 8 ∷ []))

abbrev pub by_hand : List ℕ
by_hand = 1 ∷ 1 ∷ 5 ∷ 0 ∷ 2 ∷ 2 ∷ 0 ∷ 7 ∷ 3 ∷ 0 ∷ 0 ∷ 0 ∷ 4 ∷ 2 ∷ 9 ∷ 0 ∷ []
