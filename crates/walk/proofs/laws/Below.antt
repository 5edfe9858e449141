-- Laws about walk/specs/Below. Assumes nothing.
use Prim.Native.Nat.{ℕ, suc, ◌+◌}
use native.Mathlib.Omega.{arith}
use mathlib.Core.Path.{◌≡◌, refl, ap, ◌∙◌}
use mathlib.Core.List.{List, [], ◌∷◌, ◌++◌}
use lib.Dec.{leb}
use borrow.Author.Tests.{le-leb}
use Rattle.model.specs.Basic.{flat_map, keep}
use Rattle.model.specs.declared.Pair.{Pair}
use Rattle.model.specs.Entry.{pair_of, pair}
use Rattle.model.specs.Page.{Page, pairs_at}
use Rattle.model.specs.Store.{page}
use Rattle.model.specs.Walk.{between, followed, range_below}
use Rattle.walk.specs.declared.search.Own.{Own}
use Rattle.walk.specs.Live.{live}
use Rattle.walk.specs.Ends.{upto}
use Rattle.walk.specs.Scan.{entry, from, Owns}
use Rattle.walk.proofs.laws.Scan.{next-none}
use Rattle.walk.specs.Below.{through, later}

-- no key is below 0
pub upto-between : (hi : ℕ) (xs : List Pair) → upto hi xs ≡ between 0 hi xs
upto-between hi [] = refl
upto-between hi (x ∷ xs) = rw (le-leb 0 x.key (omega arith)) (ap (keep (leb x.key hi) x) (upto-between hi xs))

module _ (up : ℕ) (ps : List Page) (v lo hi : ℕ) where
  module _ (p : List ℕ) (n : ℕ) where
    pub later-step : (i : ℕ) → between 0 hi (live v (from p i n)) ≡ pair_of (entry p i) ∷ between 0 hi (live v (from p (i + 1) n))
        → later up ps v lo hi p n i ≡ range_below up ps v lo hi (entry p i).key (entry p i).value ++ later up ps v lo hi p n (i + 1)
    unfolding later
    later-step i e = ap (flat_map (through up ps v lo hi)) e

    pub later_same : (i j : ℕ) → between 0 hi (live v (from p i n)) ≡ between 0 hi (live v (from p j n))
        → later up ps v lo hi p n i ≡ later up ps v lo hi p n j
    unfolding later
    later_same i j e = ap (flat_map (through up ps v lo hi)) e

    pub later-end : (later up ps v lo hi) p n n ≡ []
    unfolding later
    later-end = ap (flat_map (through up ps v lo hi)) (next-none p v 0 hi n)

    -- "follows the last router alive at or below the key, and every later one at or below the high key"
    pub followed-through : (at m : ℕ) (r : Own) → Owns p v at n r → pairs_at v (page ps m) ≡ live v (from p 0 n)
        → range_below (suc up) ps v lo hi at m ≡ range_below up ps v lo hi at r.page ++ later up ps v lo hi p n r.next
    unfolding later
    followed-through at m r o e =
        ap (λ (xs : List Pair). flat_map (through up ps v lo hi) (followed at hi xs)) e ∙ ap (flat_map (through up ps v lo hi)) (o.later hi)
        ∙ ap (λ (xs : List Pair). flat_map (through up ps v lo hi) (pair at r.page ∷ xs)) (upto-between hi (live v (from p r.next n)))

-- at a leaf
pub leaf-range : (up : ℕ) (ps : List Page) (v lo hi at m : ℕ) (xs : List Pair) → up ≡ 0 → pairs_at v (page ps m) ≡ xs
    → range_below up ps v lo hi at m ≡ between lo hi xs
leaf-range up ps v lo hi at m xs z e = ap (λ (u : ℕ). range_below u ps v lo hi at m) z ∙ ap (between lo hi) e
