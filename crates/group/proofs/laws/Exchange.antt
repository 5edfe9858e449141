-- The parent's change as a value: the routers to the pages now used, and what is exchanged. Assumes nothing.
use Prim.Native.Nat.{ℕ, zero, suc, ◌+◌, ◌*◌, ◌/◌, ◌<◌, ◌≤◌}
use mathlib.Core.Path.{◌≡◌, refl, ap, sym, ◌∙◌}
use mathlib.Core.List.{List, [], ◌∷◌, map}
use lib.ListN.{length, get_or, drop}
use native.Mathlib.Omega.{arith}
use borrow.Author.Tests.{le-leb, lt-leb}
use Rattle.model.specs.declared.Pair.{Pair}
use Rattle.model.specs.Entry.{pair}
use Rattle.model.specs.Rules.{low_key, parts, parts_by, routers_to}
use Rattle.edit.specs.Same.{first_of}
use Rattle.edit.specs.Change.{first_pairs}
use Rattle.edit.specs.Fill.{nil}
use Rattle.gather.specs.declared.Gather.{Gather}
use Rattle.gather.specs.Gather.{Good, pairs_in}
use Rattle.gather.proofs.laws.Gather.{length_pairs, pair-at}
use Rattle.group.specs.declared.Routers.{Routers}
use Rattle.group.specs.Group.{routers_of}

-- ---- the routers to the pages now used

low-drop : (l : List Pair) (k : ℕ) → low_key (drop k l) ≡ (get_or l k nil).key
low-drop [] zero = refl
low-drop [] (suc k) = refl
low-drop (x ∷ l) zero = refl
low-drop (x ∷ l) (suc k) = low-drop l k

module _ (least : ℕ) (rs : Routers) (g : Gather) (z : Good g) (n m : ℕ) where
  pub to_one : g.n ≤ 4 * least → pair rs.first.key n ∷ [] ≡ routers_to (routers_of rs) (parts least (pairs_in g)) n m
  unfolding routers_of routers_to parts parts_by
  to_one h =
      sym (rw (le-leb (length (pairs_in g)) (4 * least) (omega (arith, length_pairs g z))))

  -- "more fill two, the lower taking the odd one"
  pub to-two : 0 < least → 4 * least < g.n → pair rs.first.key n ∷ pair (get_or g.list ((g.n + 1) / 2) nil).key m ∷ []
      ≡ routers_to (routers_of rs) (parts least (pairs_in g)) n m
  unfolding routers_of routers_to parts parts_by
  to-two some h =
      let k : ℕ = (g.n + 1) / 2 in
      let lt : (g.n + 1) / 2 < g.n = omega arith in
      let c : length (pairs_in g) ≡ g.n = length_pairs g z in
      let e : low_key (drop ((length (pairs_in g) + 1) / 2) (pairs_in g)) ≡ (get_or g.list ((g.n + 1) / 2) nil).key
      = rw c (low-drop (pairs_in g) k ∙ ap (λ (x : Pair). x.key) (pair-at g k lt)) in
      sym (rw (lt-leb (length (pairs_in g)) (4 * least) (omega arith), e))

-- ---- what is exchanged

pub first-keys : (n : ℕ) (x y : Pair) → first_of n x.key y.key ≡ map (λ (z : Pair). z.key) (first_pairs n x y)
first-keys zero x y = refl
first-keys (suc zero) x y = refl
first-keys (suc (suc n)) x y = refl
