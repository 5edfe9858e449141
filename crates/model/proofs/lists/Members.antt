-- Members of lists, and tests over all of a list taken member by member and place by place.
-- Assumes nothing.
use Prim.Native.Nat.{ℕ, zero, suc, ◌+◌, ◌≤◌, ◌<◌}
use native.Mathlib.Omega.{arith}
use mathlib.Core.Bool.{Bool, true, false, ◌||◌}
use mathlib.Core.Path.{◌≡◌, refl, ap, sym, ◌∙◌, subst}
use mathlib.Core.Logic.{◌⊎◌, inl, inr}
use mathlib.Core.List.{List, [], ◌∷◌, ◌++◌, map}
use lib.Dec.{T, eqb}
use lib.ListN.{length, get_or}
use borrow.Author.Tests.{eqb-true, eqb-false, eq-eqb}
use Rattle.model.specs.Basic.{keep, those, all, has, count}
use Rattle.model.specs.Inner.{In}
use Rattle.model.proofs.lists.Lists.{both-intro, all_cons}

pub holds-true : (b : Bool) → T b → b ≡ true
holds-true true t = refl
holds-true false t = absurd t

pub true-holds : (b : Bool) → b ≡ true → T b
true-holds b e = subst T (sym e) tt

pub not-both : (b : Bool) → b ≡ true → b ≡ false → ⊥
not-both true p q = let z : ◌≡◌ {A = ℕ} 0 1 = cc in omega arith
not-both false p q = let z : ◌≡◌ {A = ℕ} 0 1 = cc in omega arith

pub neither : (a b : Bool) → (a || b) ≡ false → (a ≡ false) × (b ≡ false)
neither true b e = absurd (not-both true refl e)
neither false b e = (refl, e)

pub either_true : (a b : Bool) → (a || b) ≡ true → (a ≡ true) ⊎ (b ≡ true)
either_true true b e = inl refl
either_true false b e = inr e

pub either_left : (a b : Bool) → a ≡ true → (a || b) ≡ true
either_left a b e = rw e

pub either-right : (a b : Bool) → b ≡ true → (a || b) ≡ true
either-right true b e = refl
either-right false b e = e

-- a test that is not false is true
pub bool_cases : (b : Bool) → (b ≡ true) ⊎ (b ≡ false)
bool_cases true = inl refl
bool_cases false = inr refl

module _ {A : Type 0} where
  pub in_left : (a : A) (xs ys : List A) → In a xs → In a (xs ++ ys)
  in_left a [] ys i = absurd i
  in_left a (x ∷ xs) ys (inl e) = inl e
  in_left a (x ∷ xs) ys (inr i) = inr (in_left a xs ys i)

  pub in_right : (a : A) (xs ys : List A) → In a ys → In a (xs ++ ys)
  in_right a [] ys i = i
  in_right a (x ∷ xs) ys i = inr (in_right a xs ys i)

  pub in-append : (a : A) (xs ys : List A) → In a (xs ++ ys) → In a xs ⊎ In a ys
  in-append a [] ys i = inr i
  in-append a (x ∷ xs) ys (inl e) = inl (inl e)
  in-append a (x ∷ xs) ys (inr i) = at (in-append a xs ys i)
    where
      at : In a xs ⊎ In a ys → In a (x ∷ xs) ⊎ In a ys
      at (inl j) = inl (inr j)
      at (inr j) = inr j

  pub all_in : (f : A → Bool) (a : A) (xs : List A) → all f xs ≡ true → In a xs → f a ≡ true
  all_in f a [] h i = absurd i
  all_in f a (x ∷ xs) h (inl e) = ap f e ∙ (all_cons f x xs h).0
  all_in f a (x ∷ xs) h (inr i) = all_in f a xs (all_cons f x xs h).1 i

  pub all-by : (f : A → Bool) (xs : List A) → ((a : A) → In a xs → f a ≡ true) → all f xs ≡ true
  all-by f [] h = refl
  all-by f (x ∷ xs) h = both-intro (f x) (all f xs) (h x (inl refl)) (all-by f xs (λ a i. h a (inr i)))

  pub in-those : (f : A → Bool) (a : A) (xs : List A) → In a (those f xs) → (f a ≡ true) × In a xs
  in-those f a [] i = absurd i
  in-those f a (x ∷ xs) i = at (f x) refl i (λ j. in-those f a xs j)
    where
      at : (b : Bool) → f x ≡ b → In a (keep b x (those f xs)) → (In a (those f xs) → (f a ≡ true) × In a xs) → (f a ≡ true) × In a (x ∷ xs)
      at true e (inl p) ih = (ap f p ∙ e, inl p)
      at true e (inr j) ih = let (u, v) = ih j in (u, inr v)
      at false e j ih = let (u, v) = ih j in (u, inr v)

  pub those-in : (f : A → Bool) (a : A) (xs : List A) → f a ≡ true → In a xs → In a (those f xs)
  those-in f a [] h i = absurd i
  those-in f a (x ∷ xs) h (inl e) = subst (λ (b : Bool). In a (keep b x (those f xs))) (sym (ap f (sym e) ∙ h)) (inl e)
  those-in f a (x ∷ xs) h (inr i) = at (f x) (those-in f a xs h i)
    where
      at : (b : Bool) → In a (those f xs) → In a (keep b x (those f xs))
      at true j = inr j
      at false j = j

  -- place by place
  pub in-get_or : (d : A) (xs : List A) (n : ℕ) → n < length xs → In (get_or xs n d) xs
  in-get_or d [] n h = absurd (omega arith)
  in-get_or d (x ∷ xs) zero h = inl refl
  in-get_or d (x ∷ xs) (suc n) h = inr (in-get_or d xs n (omega arith))

  pub all-at : (f : A → Bool) (d : A) (xs : List A) → all f xs ≡ true → (n : ℕ) → n < length xs → f (get_or xs n d) ≡ true
  all-at f d xs h n l = all_in f (get_or xs n d) xs h (in-get_or d xs n l)

  pub all-places : (f : A → Bool) (d : A) (xs : List A) → ((n : ℕ) → n < length xs → f (get_or xs n d) ≡ true) → all f xs ≡ true
  all-places f d [] h = refl
  all-places f d (x ∷ xs) h = both-intro (f x) (all f xs) (h 0 (omega arith)) (all-places f d xs (λ n l. h (suc n) (omega arith)))

  pub all-implies : (f g : A → Bool) → ((a : A) → f a ≡ true → g a ≡ true) → (xs : List A) → all f xs ≡ true → all g xs ≡ true
  all-implies f g y xs h = all-by g xs (λ a i. y a (all_in f a xs h i))

pub in_map : {A B : Type 0} (f : A → B) (b : B) (xs : List A) → In b (map f xs) → (a : A) × (In a xs) × (b ≡ f a)
in_map f b [] i = absurd i
in_map f b (x ∷ xs) (inl e) = (x, inl refl, e)
in_map f b (x ∷ xs) (inr i) = let (a, u, v) = in_map f b xs i in (a, inr u, v)

pub map-in : {A B : Type 0} (f : A → B) (a : A) (xs : List A) → In a xs → In (f a) (map f xs)
map-in f a [] i = absurd i
map-in f a (x ∷ xs) (inl e) = inl (ap f e)
map-in f a (x ∷ xs) (inr i) = inr (map-in f a xs i)

pub has_in : (n : ℕ) (ns : List ℕ) → has n ns ≡ true → In n ns
has_in n [] h = absurd (not-both false h refl)
has_in n (m ∷ ns) h = at (either_true (eqb n m) (has n ns) h) (λ e. has_in n ns e)
  where
    at : (eqb n m ≡ true) ⊎ (has n ns ≡ true) → (has n ns ≡ true → In n ns) → In n (m ∷ ns)
    at (inl e) ih = inl (eqb-true n m e)
    at (inr e) ih = inr (ih e)

pub in-has : (n : ℕ) (ns : List ℕ) → In n ns → has n ns ≡ true
in-has n [] i = absurd i
in-has n (m ∷ ns) (inl e) = either_left (eqb n m) (has n ns) (eq-eqb n m e)
in-has n (m ∷ ns) (inr i) = either-right (eqb n m) (has n ns) (in-has n ns i)

-- the numbers from a on
pub in_count : (v a n : ℕ) → a ≤ v → v < a + n → In v (count a n)
in_count v a zero p q = absurd (omega arith)
in_count v a (suc n) p q = at (bool_cases (eqb v a)) (λ h. in_count v (suc a) n h (omega arith))
  where
    at : (eqb v a ≡ true) ⊎ (eqb v a ≡ false) → (suc a ≤ v → In v (count (suc a) n)) → In v (count a (suc n))
    at (inl e) ih = inl (eqb-true v a e)
    at (inr e) ih = let ne : v ≡ a → ⊥ = eqb-false v a e in inr (ih (omega arith))

pub count-in : (v a n : ℕ) → In v (count a n) → (a ≤ v) × (v < a + n)
count-in v a zero i = absurd i
count-in v a (suc n) (inl e) = (omega arith, omega arith)
count-in v a (suc n) (inr i) = let (p, q) = count-in v (suc a) n i in (omega arith, omega arith)
