-- Opening a viewer by the guard of readings: no keys are asked for, so 5 is never given.
-- Assumes nothing.
use Prim.Native.Nat.{ℕ}
use mathlib.Core.Bool.{Bool, true, false, not}
use mathlib.Core.Path.{◌≡◌, refl}
use mathlib.Core.List.{List, [], ◌∷◌}
use Rattle.model.specs.Layout.{decode}
use Rattle.model.specs.Judged.{length_ok, magic_ok, edition_ok}
use Rattle.model.specs.Calls.{rule, first_of, unreadable}
use Rattle.model.specs.Near.{front_right}
use Rattle.model.specs.Named.{viewed_by}
use Rattle.near.specs.Early.{guarded}

pub viewed-is : (least : ℕ) (b : List ℕ) (v : ℕ) → guarded least b false v ≡ viewed_by least b v
unfolding guarded viewed_by
viewed-is least b v = at (length_ok least b) (magic_ok b) (edition_ok least b) (front_right least b) (unreadable (decode least b) v)
  where
    at : (a m e f late : Bool)
        → first_of (rule 1 (not a) ∷ rule 2 (not m) ∷ rule 3 (not e) ∷ rule 4 (not f) ∷ rule 5 false ∷ rule 6 late ∷ [])
        ≡ first_of (rule 1 (not a) ∷ rule 2 (not m) ∷ rule 3 (not e) ∷ rule 4 (not f) ∷ rule 6 late ∷ [])
    at false m e f late = refl
    at true false e f late = refl
    at true true false f late = refl
    at true true true false late = refl
    at true true true true late = refl
