-- 2026-08, the converter: "A converter makes its target a fresh edition 2 store, which counts as making it fresh, and replays into it each
-- version's differences as 2026-07 does, bench keys let through, so that every committed version reads the same." That every version does,
-- and that no step gives a number but 12 or 13, is proved: promises' Converts.
-- Assumes nothing.
use Rattle.std.specs.Prelude.{ℕ, zero, suc, ◌||◌, not, List, [], ◌∷◌, ltb, length}
use Rattle.model.specs.Basic.{pick}
use Rattle.model.specs.declared.Delta.{Delta}
use Rattle.model.specs.Store.{Store, fresh}
use Rattle.model.specs.Walk.{settings}
use Rattle.model.specs.Layout.{size_of, decode}
use Rattle.model.specs.Judged.{length_ok, magic_ok, edition_ok, is_sound}
use Rattle.model.specs.Climb.{done, refused}
use Rattle.model.specs.Calls.{Rule, rule, first_of, begin, committed}
use Rattle.model.specs.Differ.{differ}
use Rattle.model.specs.Return.{Ran, reached, stopped, or_stopped, and_on, carried, Came, gave, gave_up, lacking}
use Rattle.model.specs.Lent.{Outcome, judged_first, left_by}

-- ---- the replay

-- One version's differences "as 2026-07 does, bench keys let through": between an open and a commit. "An empty release from before 2026-05
-- is replayed as an empty version, not refused": the commit is the one without 15.
unfoldable pub replayed : ℕ → List Delta → Store → Ran
replayed least ds t = or_stopped (λ (u : Store). and_on (λ (w : Store). reached (committed w)) (carried least ds u)) t (begin t)

-- "each version's differences": k versions of the store s, the first of them the one behind v
unfoldable pub replay : ℕ → Store → ℕ → ℕ → Store → Ran
replay least s v zero t = reached t
replay least s v (suc k) t = and_on (replay least s (suc v) k) (replayed least (differ (settings s v) (settings s (suc v))) t)

-- "Where the replay gives 12 or 13, so does the converter, and the target is then a fresh edition 2 store"
abbrev pub or_fresh : ℕ → Ran → Came
or_fresh size (reached t) = gave (done t)
or_fresh size (stopped n t) = pick (lacking n) (gave_up n (fresh size)) (gave (refused n))

-- the store s made anew in a target of so many pages; "Version 0 is empty" in both
unfoldable pub converted : ℕ → Store → ℕ → Came
converted least s size = or_fresh size (replay least s 0 s.current (fresh size))

-- ---- the call

-- Its refusals before the replay, by the bytes of source and target: "fewer than five bytes gives 1; otherwise 2, then 3, then 1 by the
-- edition's page size, then the rest as before"; "A source not of edition 1 gives 3, one with an update open 8, a target of the wrong
-- length 1."
abbrev pub convert_tests : List ℕ → List ℕ → List Rule
convert_tests b t =
    rule 1 (ltb (length b) 5)
    ∷ rule 2 (not (magic_ok b))
    ∷ rule 3 (not (edition_ok 4 b))
    ∷ rule 1 (not (length_ok 4 b) || not (length_ok 8 t))
    ∷ rule 4 (not (is_sound 4 b))
    ∷ rule 8 (decode 4 b).opened
    ∷ []

-- The number, and the target's bytes after it; the source is only read. "every other refusal leaves it untouched"
unfoldable pub convert_lent : List ℕ → List ℕ → Outcome
convert_lent b t =
    judged_first (first_of (convert_tests b t)) (λ n. record { number = n; store = t }) (left_by 8 t (converted 8 (decode 4 b) (size_of 8 t)))
