-- Laws about walk/specs/Ends. Assumes nothing.
use Prim.Native.Nat.{ℕ, ◌≤◌}
use native.Mathlib.Omega.{arith}
use mathlib.Core.Bool.{Bool, true, false, ◌&&◌}
use mathlib.Core.Option.{Option, none, some}
use mathlib.Core.Path.{◌≡◌, refl, ap, sym, ◌∙◌}
use mathlib.Core.List.{List, [], ◌∷◌}
use lib.Dec.{leb, ltb}
use borrow.Author.Tests.{ltb-true, leb-true, lt-leb, le-leb}
use Rattle.model.specs.Basic.{keep, pick}
use Rattle.model.specs.declared.Pair.{Pair}
use Rattle.model.specs.Entry.{pair}
use Rattle.model.specs.Walk.{between, Around, around_from, around, follow_from, followed}
use Rattle.model.specs.Near.{starts_by}
use Rattle.model.proofs.lists.Lists.{all_cons}
use Rattle.walk.proofs.laws.Live.{above}
use Rattle.walk.specs.Ends.{upto}

-- ---- a key

-- ---- a range of keys

pub between-above : (lo hi : ℕ) (xs : List Pair) → above hi xs ≡ true → between lo hi xs ≡ []
between-above lo hi [] h = refl
between-above lo hi (x ∷ xs) h =
    let (a, b) = all_cons (λ (y : Pair). ltb hi y.key) x xs h in
    at (leb lo x.key) (lt-leb x.key hi (ltb-true hi x.key a)) (between-above lo hi xs b)
  where
    at : (c : Bool) → leb x.key hi ≡ false → between lo hi xs ≡ [] → keep (c && leb x.key hi) x (between lo hi xs) ≡ []
    at true q ih = rw q ih
    at false q ih = ih

-- ---- the last router at or below a key

-- the page that it leads to, c where there is none
abbrev pub lead : ℕ → ℕ → List Pair → ℕ
lead k c [] = c
lead k c (x ∷ xs) = pick (leb x.key k) (lead k x.value xs) c

around-lead : (k : ℕ) (l : Option Pair) (x : Pair) (xs : List Pair) → (around_from k l x xs).own.value ≡ lead k x.value xs
around-lead k l x [] = refl
around-lead k l x (y ∷ ys) = at (leb y.key k) (around-lead k (some x) y ys)
  where
    at : (b : Bool) → (around_from k (some x) y ys).own.value ≡ lead k y.value ys
        → (elim b as (λ z. Around) [ true ↦ around_from k (some x) y ys | false ↦ record { left = l; own = x; right = some y } ]).own.value
        ≡ pick b (lead k y.value ys) x.value
    at true ih = ih
    at false ih = refl

pub lead-start : (k c : ℕ) (xs : List Pair) → starts_by k xs ≡ true → (around k xs).own.value ≡ lead k c xs
lead-start k c [] h = absurd (let z : ◌≡◌ {A = ℕ} 0 1 = cc in omega arith)
lead-start k c (x ∷ xs) h = around-lead k none x xs ∙ sym (rw h)

pub lead-on : (k c : ℕ) (x : Pair) (xs : List Pair) → x.key ≤ k → lead k c (x ∷ xs) ≡ lead k x.value xs
lead-on k c x xs h = rw (le-leb x.key k h)

pub starts-above : (k : ℕ) (xs : List Pair) → above k xs ≡ true → starts_by k xs ≡ false
starts-above k [] h = refl
starts-above k (x ∷ xs) h = lt-leb x.key k (ltb-true k x.key (all_cons (λ (y : Pair). ltb k y.key) x xs h).0)

pub lead-above : (k c : ℕ) (xs : List Pair) → above k xs ≡ true → lead k c xs ≡ c
lead-above k c [] h = refl
lead-above k c (x ∷ xs) h = rw (lt-leb x.key k (ltb-true k x.key (all_cons (λ (y : Pair). ltb k y.key) x xs h).0))

-- ---- the routers that a range follows

-- those that it follows, where c is the page of the last one at or below the key so far
abbrev pub trail : ℕ → ℕ → ℕ → List Pair → List Pair
trail at hi c xs = follow_from at hi (pair 0 c) xs

-- what is followed where the next router's key is, or is not, at most the key
abbrev next : ℕ → ℕ → Pair → Pair → List Pair → Bool → List Pair
next at hi x y ys true = follow_from at hi y ys
next at hi x y ys false = pair at x.value ∷ upto hi (y ∷ ys)

follow-next : (at hi : ℕ) (x y : Pair) (ys : List Pair) → follow_from at hi x (y ∷ ys) ≡ next at hi x y ys (leb y.key at)
follow-next at hi x y ys = by (leb y.key at)
  where
    by : (b : Bool) → ◌≡◌ {A = List Pair} (elim b [ true ↦ follow_from at hi y ys | false ↦ pair at x.value ∷ upto hi (y ∷ ys) ])
        (next at hi x y ys b)
    by true = refl
    by false = refl

trail-value : (at hi : ℕ) (x : Pair) (xs : List Pair) → follow_from at hi x xs ≡ trail at hi x.value xs
trail-value at hi x [] = refl
trail-value at hi x (y ∷ ys) = follow-next at hi x y ys ∙ by (leb y.key at) ∙ sym (follow-next at hi (pair 0 x.value) y ys)
  where
    by : (b : Bool) → next at hi x y ys b ≡ next at hi (pair 0 x.value) y ys b
    by true = refl
    by false = refl

pub trail-on : (at hi c : ℕ) (x : Pair) (xs : List Pair) → x.key ≤ at → trail at hi c (x ∷ xs) ≡ trail at hi x.value xs
trail-on at hi c x xs h =
    follow-next at hi (pair 0 c) x xs ∙ ap (next at hi (pair 0 c) x xs) (le-leb x.key at h) ∙ trail-value at hi x xs

pub trail-start : (at hi c : ℕ) (xs : List Pair) → starts_by at xs ≡ true → followed at hi xs ≡ trail at hi c xs
trail-start at hi c [] h = absurd (let z : ◌≡◌ {A = ℕ} 0 1 = cc in omega arith)
trail-start at hi c (x ∷ xs) h = trail-value at hi x xs ∙ sym (trail-on at hi c x xs (leb-true x.key at h))

pub trail-above : (at hi c : ℕ) (xs : List Pair) → above at xs ≡ true → trail at hi c xs ≡ pair at c ∷ upto hi xs
trail-above at hi c [] h = refl
trail-above at hi c (x ∷ xs) h =
    follow-next at hi (pair 0 c) x xs ∙ ap (next at hi (pair 0 c) x xs)
    (lt-leb x.key at (ltb-true at x.key (all_cons (λ (y : Pair). ltb at y.key) x xs h).0))
