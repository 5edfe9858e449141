-- Laws about parts/specs/Free. Assumes nothing.
use Prim.Native.Nat.{ℕ, zero, suc, ◌+◌, ◌<◌, ◌≤◌}
use mathlib.Core.Path.{◌≡◌, refl}
use mathlib.Core.List.{List, [], ◌∷◌}
use native.Mathlib.Numerals.{add-one}
use native.Mathlib.Omega.{arith}
use lib.ListN.{length, drop}
use lib.Seq.{drop-cons}
use mathlib.Core.Bool.{Bool, true, false}
use lib.Dec.{eqb}
use Rattle.std.specs.Int.{from_bool}
use Rattle.model.specs.Basic.{keep}
use borrow.Author.Tests.{eq-eqb, ne_eqb}
use Rattle.model.specs.Page.{Page, free}
use Rattle.model.specs.Store.{page, free_ones, free_from}
use Rattle.parts.specs.Free.{free_past}

pub free_all : (ps : List Page) → free_ones ps ≡ free_past ps 5
unfolding free_past
free_all ps = refl

module _ (ps : List Page) (i : ℕ) where
  pub free-here : i < length ps → (page ps i).level ≡ 0 → free_past ps i ≡ i ∷ free_past ps (i + 1)
  unfolding free_past
  free-here h e = rw (drop-cons ps i free h, eq-eqb (page ps i).level 0 e, add-one)

  pub free-not : i < length ps → ((page ps i).level ≡ 0 → ⊥) → free_past ps i ≡ free_past ps (i + 1)
  unfolding free_past
  free-not h e = rw (drop-cons ps i free h, ne_eqb (page ps i).level 0 e, add-one)

  pub free-none : length ps ≤ i → free_past ps i ≡ []
  unfolding free_past
  free-none h = let e : drop i ps ≡ [] = past ps i h in rw e
    where
      past : (l : List Page) (i : ℕ) → length l ≤ i → drop i l ≡ []
      past [] zero h = refl
      past [] (suc i) h = refl
      past (x ∷ l) zero h = absurd (omega arith)
      past (x ∷ l) (suc i) h = past l i (omega arith)

  -- how many there are from page i on
  pub free-step : i < length ps → length (free_past ps i) ≡ from_bool (eqb (page ps i).level 0) + length (free_past ps (i + 1))
  unfolding free_past
  free-step h = rw (drop-cons ps i free h, add-one) (by (eqb (page ps i).level 0))
    where
      by : (b : Bool) → length (keep b i (free_from (suc i) (drop (suc i) ps))) ≡ from_bool b + length (free_from (suc i) (drop (suc i) ps))
      by true = omega arith
      by false = omega arith
