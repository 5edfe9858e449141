-- Tests over lists, and what entering and ending entries does to them.
-- Assumes nothing.
use Prim.Native.Nat.{ℕ, suc, ◌≤◌, zero, ◌+◌}
use native.Mathlib.Omega.{arith}
use mathlib.Core.Bool.{Bool, true, false, ◌&&◌}
use mathlib.Core.Path.{◌≡◌, refl, ap, sym, ◌∙◌}
use mathlib.Core.List.{List, [], ◌∷◌, map, ◌++◌, append_assoc}
use lib.Dec.{eqb}
use lib.ListN.{length, take, set}
use lib.Seq.{sets}
use Rattle.model.specs.Basic.{keep, those, all, flat_map}
use Rattle.model.specs.declared.Entry.{Entry}
use Rattle.model.specs.Entry.{before, placed, enter, end_one, end_those, ended_at}

pub both_true : (a b : Bool) → (a && b) ≡ true → (a ≡ true) × (b ≡ true)
both_true true b e = (refl, e)
both_true false b e = (e, cc)

module _ {A B : Type 0} where
  pub map-keep : (f : A → B) (b : Bool) (x : A) (xs : List A) → map f (keep b x xs) ≡ keep b (f x) (map f xs)
  map-keep f true x xs = refl
  map-keep f false x xs = refl

pub all_cons : {A : Type 0} (f : A → Bool) (x : A) (xs : List A) → all f (x ∷ xs) ≡ true → (f x ≡ true) × (all f xs ≡ true)
all_cons f x xs h = both_true (f x) (all f xs) h

-- an entry that a test leaves out may be put in
pub those-enter : (f : Entry → Bool) (e : Entry) → f e ≡ false → (es : List Entry) → those f (enter e es) ≡ those f es
those-enter f e n [] = rw n
those-enter f e n (x ∷ xs) = at (before e x) (those-enter f e n xs)
  where
    at : (b : Bool) → those f (enter e xs) ≡ those f xs → those f (placed b e x xs (enter e xs)) ≡ keep (f x) x (those f xs)
    at true ih = rw n
    at false ih = ap (keep (f x) x) ih

pub both-intro : (a b : Bool) → a ≡ true → b ≡ true → (a && b) ≡ true
both-intro a b p q = rw p q

pub all-enter : (f : Entry → Bool) (e : Entry) → f e ≡ true → (es : List Entry) → all f es ≡ true → all f (enter e es) ≡ true
all-enter f e y [] ok = both-intro (f e) true y refl
all-enter f e y (x ∷ xs) ok =
    let (here, rest) = all_cons f x xs ok in
    at (before e x) here rest (all-enter f e y xs rest)
  where
    at : (b : Bool) → f x ≡ true → all f xs ≡ true → all f (enter e xs) ≡ true → all f (placed b e x xs (enter e xs)) ≡ true
    at true here rest ih = both-intro (f e) _ y (both-intro (f x) _ here rest)
    at false here rest ih = both-intro (f x) _ here ih

pub all_end : (f g : Entry → Bool) (w : ℕ) → ((e : Entry) → f e ≡ true → f (ended_at w e) ≡ true) → (es : List Entry) → all f es ≡ true
    → all f (end_those g w es) ≡ true
all_end f g w y [] ok = refl
all_end f g w y (e ∷ es) ok =
    let (here, rest) = all_cons f e es ok in
    at (g e) (eqb e.start w) here (all_end f g w y es rest)
  where
    at : (b c : Bool) → f e ≡ true → all f (end_those g w es) ≡ true → all f (end_one b c w e (end_those g w es)) ≡ true
    at false c here ih = both-intro (f e) _ here ih
    at true true here ih = ih
    at true false here ih = both-intro (f (ended_at w e)) _ (y e here) ih

-- ending entries adds none
pub shorter : (f : Entry → Bool) (u : ℕ) (es : List Entry) → length (end_those f u es) ≤ length es
shorter f u [] = omega arith
shorter f u (e ∷ es) = at (f e) (eqb e.start u) (shorter f u es)
  where
    at : (b c : Bool) → length (end_those f u es) ≤ length es → length (end_one b c u e (end_those f u es)) ≤ suc (length es)
    at false c ih = omega arith
    at true true ih = omega arith
    at true false ih = omega arith

pub few-those : {A : Type 0} (f : A → Bool) (xs : List A) → length (those f xs) ≤ length xs
few-those f [] = omega arith
few-those f (x ∷ xs) = at (f x) (few-those f xs)
  where
    at : (b : Bool) → length (those f xs) ≤ length xs → length (keep b x (those f xs)) ≤ suc (length xs)
    at true ih = omega arith
    at false ih = omega arith

pub length-enter : (e : Entry) (es : List Entry) → length (enter e es) ≡ suc (length es)
length-enter e [] = refl
length-enter e (x ∷ xs) = at (before e x) (length-enter e xs)
  where
    at : (b : Bool) → length (enter e xs) ≡ suc (length xs) → length (placed b e x xs (enter e xs)) ≡ suc (suc (length xs))
    at true ih = refl
    at false ih = ap suc ih

-- ---- lists joined, cut and written over

pub take-map : {A B : Type 0} (f : A → B) (n : ℕ) (xs : List A) → take n (map f xs) ≡ map f (take n xs)
take-map f zero xs = refl
take-map f (suc n) [] = refl
take-map f (suc n) (x ∷ xs) = ap (λ (ys : List _). f x ∷ ys) (take-map f n xs)

pub flat_append : {A B : Type 0} (f : A → List B) (xs ys : List A) → flat_map f (xs ++ ys) ≡ flat_map f xs ++ flat_map f ys
flat_append f [] ys = refl
flat_append f (x ∷ xs) ys = ap (λ (zs : List _). f x ++ zs) (flat_append f xs ys) ∙ sym (append_assoc (f x) (flat_map f xs) (flat_map f ys))

pub sets-append : (ns : List ℕ) (i : ℕ) (us vs : List ℕ) → sets ns i (us ++ vs) ≡ sets (sets ns i us) (i + length us) vs
sets-append ns i [] vs = let e : i + 0 ≡ i = omega arith in rw e
sets-append ns i (u ∷ us) vs =
    let e : i + suc (length us) ≡ suc i + length us = omega arith in rw e (sets-append (set ns i u) (suc i) us vs)
