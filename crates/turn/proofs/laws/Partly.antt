-- A list of pages rewritten one by one, each by f: the stages, the first n pages written. Abandon (f takes a page back) and prune (f frees
-- it) are two such. Assumes nothing.
use Prim.Native.Nat.{ℕ, zero, suc, ◌+◌, ◌≤◌, ◌<◌}
use native.Mathlib.Omega.{arith}
use native.Mathlib.Numerals.{add-one}
use mathlib.Core.Bool.{false}
use mathlib.Core.Path.{◌≡◌, refl, ap, sym, ◌∙◌}
use mathlib.Core.List.{List, [], ◌∷◌, ◌++◌, map}
use lib.Dec.{eqb}
use lib.ListN.{length, set, take, drop, replicate, take-append-drop}
use borrow.Author.Tests.{ne_eqb}
use Rattle.model.specs.Page.{Page, free}
use Rattle.model.specs.Store.{page}
use Rattle.model.specs.Calls.{back}

-- an update's version is not 0, so a free page stays
pub free_back : (w : ℕ) → 0 < w → back w free ≡ free
free_back w h = let e : eqb 0 w ≡ false = ne_eqb 0 w (λ (f : 0 ≡ w). omega arith) in rw (e, e)

module _ (f : Page → Page) where
  unfoldable pub partly : ℕ → List Page → List Page
  partly n ps = map f (take n ps) ++ drop n ps

  pub frees : f free ≡ free → (n : ℕ) → map f (replicate n free) ≡ replicate n free
  frees h zero = refl
  frees h (suc n) = rw (h, frees h n)

  pub partly-start : f free ≡ free → (ps : List Page) → take 5 ps ≡ replicate 5 free → ps ≡ partly 5 ps
  unfolding partly
  partly-start h ps e = sym (take-append-drop 5 ps) ∙ ap (λ (xs : List Page). xs ++ drop 5 ps) (e ∙ sym (frees h 5) ∙ ap (map f) (sym e))

  -- page n itself is not written yet
  pub partly-at : (n : ℕ) (ps : List Page) → page (partly n ps) n ≡ page ps n
  unfolding partly
  partly-at zero ps = refl
  partly-at (suc n) [] = refl
  partly-at (suc n) (x ∷ ps) = partly-at n ps

  step : (n : ℕ) (ps : List Page) → n < length ps → set (partly n ps) n (f (page (partly n ps) n)) ≡ partly (suc n) ps
  unfolding partly
  step n [] h = absurd (omega arith)
  step zero (x ∷ ps) h = refl
  step (suc n) (x ∷ ps) h = ap (λ (l : List Page). f x ∷ l) (step n ps (omega arith))

  pub partly-step : (n : ℕ) (ps : List Page) → n < length ps → set (partly n ps) n (f (page (partly n ps) n)) ≡ partly (n + 1) ps
  partly-step n ps h = rw add-one (step n ps h)

  pub partly-end : (n : ℕ) (ps : List Page) → length ps ≤ n → partly n ps ≡ map f ps
  unfolding partly
  partly-end zero [] h = refl
  partly-end (suc n) [] h = refl
  partly-end zero (x ∷ ps) h = absurd (omega arith)
  partly-end (suc n) (x ∷ ps) h = ap (λ (l : List Page). f x ∷ l) (partly-end n ps (omega arith))

  pub partly-length : (n : ℕ) (ps : List Page) → length (partly n ps) ≡ length ps
  unfolding partly
  partly-length zero ps = refl
  partly-length (suc n) [] = refl
  partly-length (suc n) (x ∷ ps) = ap suc (partly-length n ps)
