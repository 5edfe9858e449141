-- Laws about root/specs/Renew. Assumes nothing.
use Prim.Native.Nat.{ℕ, zero, suc, ◌+◌, ◌*◌, ◌<◌}
use mathlib.Core.Path.{◌≡◌, refl, ap, sym, ◌∙◌}
use mathlib.Core.List.{List, [], ◌∷◌}
use native.Mathlib.Numerals.{add-one}
use native.Mathlib.Omega.{arith}
use lib.ListN.{get_or, set, replicate, length-set, length-replicate}
use Rattle.std.specs.Prelude.{None, Some}
use Rattle.model.specs.declared.Limits.{Limits}
use Rattle.model.specs.declared.Pair.{Pair}
use Rattle.model.specs.Entry.{pair}
use Rattle.model.specs.Page.{Page, Change, filled, wanted}
use Rattle.model.specs.Store.{page, free_ones}
use Rattle.model.specs.Rules.{Rebuilt, rebuilt, short}
use Rattle.model.specs.Climb as climb
use Rattle.model.specs.Needs.{root_group}
use Rattle.edit.specs.Fill.{nil, Fitting}
use Rattle.gather.specs.declared.Gather.{Gather}
use Rattle.gather.specs.Gather.{Good, Lists, pairs_in}
use Rattle.parts.specs.Kept.{ExactBytes, Inside}
use Rattle.group.specs.declared.Routers.{Routers}
use Rattle.group.specs.Group.{routers_of, group_of, Router, Grouped}
use Rattle.root.specs.Renew.{alone_with}

pub alone-is : (w : ℕ) (ps : List Page) (n : ℕ) (c : Change) (want : Gather) → pairs_in want ≡ wanted w c (page ps n)
    → group_of (alone_with n want) ≡ root_group w ps n c
unfolding group_of routers_of
alone-is w ps n c want e = ap (λ (xs : List Pair). record { routers = pair 0 n ∷ []; pairs = xs }) e

pub alone-grouped : {l : Limits} {b : List ℕ} → ExactBytes l b → (n : ℕ) → Inside l b n → (want : Gather) → Good want
    → want.n < 7 * l.least → Grouped l b (alone_with n want)
alone-grouped {l} {b} k n i want z few =
    let r : Router l b (pair 0 n) = record { inside = i; fits = record { key = omega arith; value = omega (arith, i.high, k.most) } } in
    record { routed = record { first = r; second = λ x e. cc }; good = z; few = few }

-- no page for it
pub renew-lacks : (w level : ℕ) (x : Rebuilt) → x ≡ short → climb.lacks ≡ climb.new_root w level x
unfolding climb.new_root
renew-lacks w level x e = sym (rw e)

-- ---- with these routers to the pages now used

module _ (w level : ℕ) (ps : List Page) (rs : Routers) where
  pub crown-one : rs.second ≡ None → climb.moves rs.first.value ps ≡ climb.new_root w level (rebuilt ps (routers_of rs))
  unfolding climb.new_root routers_of
  crown-one e = sym (rw e)

  module _ (x : Pair) (two : rs.second ≡ Some x) where
    pub crown-none : free_ones ps ≡ [] → climb.lacks ≡ climb.new_root w level (rebuilt ps (routers_of rs))
    unfolding climb.new_root climb.topped routers_of
    crown-none e = sym (rw (two, e))

    pub crown-two : (n : ℕ) (ns : List ℕ) → free_ones ps ≡ n ∷ ns
        → climb.moves n (set ps n (filled w (level + 1) (rs.first ∷ x ∷ []))) ≡ climb.new_root w level (rebuilt ps (routers_of rs))
    unfolding climb.new_root climb.topped routers_of
    crown-two n ns e = sym (rw (two, e, add-one))

-- ---- two routers, as a list by value

fits-two : (n : ℕ) (x y : Pair) → Fitting x → Fitting y → (k : ℕ) → Fitting (get_or (x ∷ y ∷ replicate n x) k nil)
fits-two n x y f g zero = f
fits-two n x y f g (suc zero) = g
fits-two n x y f g (suc (suc k)) = same n k
  where
    same : (n k : ℕ) → Fitting (get_or (replicate n x) k nil)
    same zero k = record { key = omega arith; value = omega arith }
    same (suc n) zero = f
    same (suc n) (suc k) = same n k

pub lists-two : (x y : Pair) → Fitting x → Fitting y → Lists (record { list = set (replicate 56 x) 1 y; n = 2 }) (x ∷ y ∷ [])
unfolding pairs_in
lists-two x y f g = record {
  good = record { size = length-set (replicate 56 x) 1 y ∙ length-replicate 56 x; room = omega arith; fits = fits-two 54 x y f g };
  is = refl;
}
