-- Each to the next, or each to all later ones: the same for a test that carries on. Code compares neighbours, definitions say `in_order`.
-- Assumes nothing.
use Prim.Native.Nat.{ℕ, ◌<◌}
use native.Mathlib.Omega.{arith}
use mathlib.Core.Bool.{Bool, true, false, ◌&&◌}
use mathlib.Core.Path.{◌≡◌, refl, ap, sym, ◌∙◌}
use mathlib.Core.Logic.{◌⊎◌, inl, inr}
use mathlib.Core.List.{List, [], ◌∷◌}
use lib.Dec.{ltb, eqb}
use borrow.Author.Tests.{ltb-true, eqb-true, lt-ltb, eq-eqb}
use Rattle.model.specs.Basic.{all, in_order}
use Rattle.model.specs.declared.Pair.{Pair}
use Rattle.model.specs.Entry.{before}
use Rattle.model.specs.Inner.{first_ok, sooner}
use Rattle.model.proofs.lists.Lists.{both_true, both-intro}
use Rattle.model.proofs.lists.Members.{either_true, either_left, either-right, all-implies}

module _ {A : Type 0} where
  abbrev pub rising : (A → A → Bool) → List A → Bool
  rising f [] = true
  rising f (x ∷ xs) = first_ok f x xs && rising f xs

  abbrev pub Carries : (A → A → Bool) → Type 0
  Carries f = (x y z : A) → f x y ≡ true → f y z ≡ true → f x z ≡ true

  module _ (f : A → A → Bool) (carries : Carries f) where
    first-all : (x : A) (xs : List A) → in_order f xs ≡ true → all (f x) xs ≡ first_ok f x xs
    first-all x [] o = refl
    first-all x (y ∷ ys) o = at (f x y) refl
      where
        at : (b : Bool) → f x y ≡ b → (b && all (f x) ys) ≡ b
        at true e = all-implies (f y) (f x) (λ z h. carries x y z e h) ys (both_true (all (f y) ys) (in_order f ys) o).0
        at false e = refl

    pub in-order-step : (x : A) (xs : List A) → in_order f (x ∷ xs) ≡ (first_ok f x xs && in_order f xs)
    in-order-step x xs = at (in_order f xs) refl
      where
        none : (c : Bool) → (c && false) ≡ false
        none true = refl
        none false = refl

        at : (b : Bool) → in_order f xs ≡ b → (all (f x) xs && b) ≡ (first_ok f x xs && b)
        at true e = ap (λ (c : Bool). c && true) (first-all x xs e)
        at false e = none (all (f x) xs) ∙ sym (none (first_ok f x xs))

    -- neighbours are enough
    pub in-order-rising : (xs : List A) → in_order f xs ≡ rising f xs
    in-order-rising [] = refl
    in-order-rising (x ∷ xs) = in-order-step x xs ∙ ap (λ (b : Bool). first_ok f x xs && b) (in-order-rising xs)

-- ---- the three orders of document 01

less-carries : (a b c : ℕ) → ltb a b ≡ true → ltb b c ≡ true → ltb a c ≡ true
less-carries a b c p q = lt-ltb a c (omega (arith, ltb-true a b p, ltb-true b c q))

pub sooner-carries : Carries sooner
sooner-carries x y z p q = less-carries x.version y.version z.version p q

abbrev pub lower : Pair → Pair → Bool
lower x y = ltb x.key y.key

pub lower-carries : Carries lower
lower-carries x y z p q = less-carries x.key y.key z.key p q

pub before-carries : Carries before
before-carries d e f p q = at (either_true (ltb d.key e.key) _ p) (either_true (ltb e.key f.key) _ q)
  where
    keys : d.key < f.key → before d f ≡ true
    keys l = either_left (ltb d.key f.key) _ (lt-ltb d.key f.key l)

    at : (ltb d.key e.key ≡ true) ⊎ ((eqb d.key e.key && ltb d.start e.start) ≡ true)
        → (ltb e.key f.key ≡ true) ⊎ ((eqb e.key f.key && ltb e.start f.start) ≡ true) → before d f ≡ true
    at (inl a) (inl b) = keys (omega (arith, ltb-true d.key e.key a, ltb-true e.key f.key b))
    at (inl a) (inr b) =
        keys (omega (arith, ltb-true d.key e.key a, eqb-true e.key f.key (both_true (eqb e.key f.key) _ b).0))
    at (inr a) (inl b) =
        keys (omega (arith, eqb-true d.key e.key (both_true (eqb d.key e.key) _ a).0, ltb-true e.key f.key b))
    at (inr a) (inr b) =
        let (k, s) = both_true (eqb d.key e.key) (ltb d.start e.start) a in
        let (m, t) = both_true (eqb e.key f.key) (ltb e.start f.start) b in
        either-right (ltb d.key f.key) _
        (both-intro _ _ (eq-eqb d.key f.key (eqb-true d.key e.key k ∙ eqb-true e.key f.key m))
        (less-carries d.start e.start f.start s t))
