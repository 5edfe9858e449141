-- Laws about group/specs/Group. Assumes nothing.
use Prim.Native.Nat.{ℕ, ◌*◌, ◌<◌, ◌≤◌}
use mathlib.Core.Path.{◌≡◌, sym}
use mathlib.Core.List.{List, [], ◌∷◌, ◌++◌}
use lib.Dec.{ltb}
use lib.ListN.{length}
use native.Mathlib.Omega.{arith}
use borrow.Author.Tests.{lt-ltb, le-ltb}
use Rattle.std.specs.Prelude.{None, Some}
use Rattle.model.specs.declared.Pair.{Pair}
use Rattle.model.specs.Page.{Page, pairs_at}
use Rattle.model.specs.Store.{page}
use Rattle.model.specs.Rules.{gather_by, with_neighbour}
use Rattle.gather.specs.declared.Gather.{Gather}
use Rattle.gather.specs.Gather.{Good, pairs_in}
use Rattle.gather.proofs.laws.Gather.{length_pairs}
use Rattle.group.specs.declared.Around.{Around}
use Rattle.group.specs.Group.{around_of}

-- ---- the cases of gathering

module _ (least w : ℕ) (ps : List Page) (a : Around) (want : Gather) (z : Good want) where
  pub gather-right : want.n < 2 * least → (x : Pair) → a.right ≡ Some x
      → record { routers = a.own ∷ x ∷ []; pairs = pairs_in want ++ pairs_at w (page ps x.value) }
      ≡ gather_by (ltb (length (pairs_in want)) (2 * least)) w ps (around_of a) (pairs_in want)
  unfolding gather_by with_neighbour around_of
  gather-right h x e = sym (rw (lt-ltb (length (pairs_in want)) (2 * least) (omega (arith, length_pairs want z)), e))

  pub gather-left : want.n < 2 * least → a.right ≡ None → (x : Pair) → a.left ≡ Some x
      → record { routers = x ∷ a.own ∷ []; pairs = pairs_at w (page ps x.value) ++ pairs_in want }
      ≡ gather_by (ltb (length (pairs_in want)) (2 * least)) w ps (around_of a) (pairs_in want)
  unfolding gather_by with_neighbour around_of
  gather-left h e x f = sym (rw (lt-ltb (length (pairs_in want)) (2 * least) (omega (arith, length_pairs want z)), e, f))

  pub gather_none : want.n < 2 * least → a.right ≡ None → a.left ≡ None
      → record { routers = a.own ∷ []; pairs = pairs_in want }
      ≡ gather_by (ltb (length (pairs_in want)) (2 * least)) w ps (around_of a) (pairs_in want)
  unfolding gather_by with_neighbour around_of
  gather_none h e f = sym (rw (lt-ltb (length (pairs_in want)) (2 * least) (omega (arith, length_pairs want z)), e, f))

  pub gather-alone : 2 * least ≤ want.n → record { routers = a.own ∷ []; pairs = pairs_in want }
      ≡ gather_by (ltb (length (pairs_in want)) (2 * least)) w ps (around_of a) (pairs_in want)
  unfolding gather_by around_of
  gather-alone h = sym (rw (le-ltb (length (pairs_in want)) (2 * least) (omega (arith, length_pairs want z))))
