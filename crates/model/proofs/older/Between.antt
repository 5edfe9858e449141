-- A page shows the same at two versions between which nothing of it starts or ends.
-- Assumes nothing.
use Prim.Native.Nat.{ℕ, ◌≤◌}
use native.Mathlib.Omega.{arith}
use mathlib.Core.Bool.{Bool, true, false, ◌&&◌, ◌||◌}
use mathlib.Core.Path.{◌≡◌, refl, sym, ◌∙◌}
use mathlib.Core.List.{List, [], ◌∷◌}
use lib.Dec.{leb, ltb}
use borrow.Author.Tests.{ltb-true, leb-true, lt-ltb, lt-leb, le-leb, le-ltb, leb-false}
use Rattle.model.specs.Basic.{those, all}
use Rattle.model.specs.declared.Entry.{Entry}
use Rattle.model.specs.Entry.{live_at}
use Rattle.model.specs.Page.{Page, pairs_at}
use Rattle.model.proofs.lists.Lists.{both_true, all_cons}

-- n is not above u and at most v
abbrev pub outside : ℕ → ℕ → ℕ → Bool
outside u v n = leb n u || ltb v n

abbrev pub still : ℕ → ℕ → Entry → Bool
still u v e = outside u v e.start && outside u v e.end

module _ (u v : ℕ) (h : u ≤ v) where
  pub leb-still : (n : ℕ) → outside u v n ≡ true → leb n u ≡ leb n v
  leb-still n o = at (leb n u) refl o
    where
      at : (b : Bool) → leb n u ≡ b → (b || ltb v n) ≡ true → b ≡ leb n v
      at true p q = sym (le-leb n v (omega (arith, leb-true n u p)))
      at false p q = sym (lt-leb n v (ltb-true v n q))

  pub ltb-still : (n : ℕ) → outside u v n ≡ true → ltb u n ≡ ltb v n
  ltb-still n o = at (leb n u) refl o
    where
      at : (b : Bool) → leb n u ≡ b → (b || ltb v n) ≡ true → ltb u n ≡ ltb v n
      at true p q = le-ltb u n (leb-true n u p) ∙ sym (le-ltb v n (omega (arith, leb-true n u p)))
      at false p q = lt-ltb u n (leb-false n u p) ∙ sym q

  pub live-still : (e : Entry) → still u v e ≡ true → live_at u e ≡ live_at v e
  live-still e o =
      let (a, b) = both_true (outside u v e.start) (outside u v e.end) o in
      rw (leb-still e.start a, ltb-still e.end b)

  pub those-still : (es : List Entry) → all (still u v) es ≡ true → those (live_at u) es ≡ those (live_at v) es
  those-still [] o = refl
  those-still (e ∷ es) o =
      let (here, rest) = all_cons (still u v) e es o in
      rw (live-still e here, those-still es rest)

  -- (c)
  pub pairs-still : (p : Page) → all (still u v) p.entries ≡ true → pairs_at u p ≡ pairs_at v p
  pairs-still p o = rw (those-still p.entries o)
