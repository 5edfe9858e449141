-- The difference of two lists that stand by key, one key after the other: the smaller first key says what differs there.
-- Assumes nothing.
use Prim.Native.Nat.{ℕ, ◌≤◌, ◌<◌}
use native.Mathlib.Omega.{arith}
use mathlib.Core.Bool.{Bool, true, false}
use mathlib.Core.Option.{Option, none, some}
use mathlib.Core.Path.{◌≡◌, refl, ap, ap₂, sym}
use mathlib.Core.List.{List, [], ◌∷◌, ◌++◌, map}
use mathlib.Core.Logic.{inl, inr}
use lib.Dec.{ltb, eqb}
use borrow.Author.Tests.{ltb-true, ltb-false, lt-ltb, le-ltb, eq-eqb, ne_eqb, eqb-true}
use Rattle.model.specs.Basic.{all, those, pick}
use Rattle.model.specs.declared.Pair.{Pair}
use Rattle.model.specs.declared.Delta.{Delta}
use Rattle.model.specs.Walk.{find}
use Rattle.model.specs.Differ.{added, removed, against, differ}
use Rattle.model.specs.Inner.{rising, In}
use Rattle.model.specs.Entry.{pair}
use Rattle.model.proofs.lists.Lists.{both_true, both-intro, all_cons}

-- each key is above k
abbrev pub above : ℕ → List Pair → Bool
above k xs = all (λ (x : Pair). ltb k x.key) xs

pub above_lower : (j k : ℕ) (xs : List Pair) → above k xs ≡ true → j ≤ k → above j xs ≡ true
above_lower j k [] a h = refl
above_lower j k (x ∷ xs) a h =
    let (p, q) = all_cons (λ (y : Pair). ltb k y.key) x xs a in
    both-intro (ltb j x.key) (above j xs) (lt-ltb j x.key (omega (arith, ltb-true k x.key p))) (above_lower j k xs q h)

pub above-cons : (k : ℕ) (x : Pair) (xs : List Pair) → k < x.key → above x.key xs ≡ true → above k (x ∷ xs) ≡ true
above-cons k x xs h a = both-intro (ltb k x.key) (above k xs) (lt-ltb k x.key h) (above_lower k x.key xs a (omega arith))

pub find-above : (k : ℕ) (xs : List Pair) → above k xs ≡ true → find k xs ≡ none
find-above k [] h = refl
find-above k (x ∷ xs) h =
    let (a, b) = all_cons (λ (y : Pair). ltb k y.key) x xs h in
    rw (ne_eqb x.key k (λ (e : x.key ≡ k). omega (arith, ltb-true k x.key a))) (find-above k xs b)

none_before : (k : ℕ) (xs : List Pair) → above k xs ≡ true → those (λ (y : Pair). ltb y.key k) xs ≡ []
none_before k [] a = refl
none_before k (x ∷ xs) a =
    let (p, q) = all_cons (λ (y : Pair). ltb k y.key) x xs a in
    rw (le-ltb x.key k (omega (arith, ltb-true k x.key p))) (none_before k xs q)

all-behind : (k : ℕ) (xs : List Pair) → above k xs ≡ true → those (λ (y : Pair). ltb k y.key) xs ≡ xs
all-behind k [] a = refl
all-behind k (x ∷ xs) a =
    let (p, q) = all_cons (λ (y : Pair). ltb k y.key) x xs a in rw p (ap (λ (zs : List Pair). x ∷ zs) (all-behind k xs q))

-- ---- the first difference

-- the first version's key comes first
pub old-first : (x : Pair) (xs ws : List Pair) → above x.key ws ≡ true → differ (x ∷ xs) ws ≡ removed x ∷ differ xs ws
old-first x xs ws a =
    ap₂ (λ (us vs : List Delta). us ++ vs) (ap (map added) (none_before x.key ws a))
    (ap₂ (λ (o : Option ℕ) (zs : List Pair). against x o ++ differ xs zs) (find-above x.key ws a) (all-behind x.key ws a))

-- the second's
pub new-first : (us : List Pair) (y : Pair) (ys : List Pair) → above y.key us ≡ true → differ us (y ∷ ys) ≡ added y ∷ differ us ys
new-first [] y ys a = refl
new-first (x ∷ xs) y ys a =
    let h : y.key < x.key = ltb-true y.key x.key (all_cons (λ (z : Pair). ltb y.key z.key) x xs a).0 in
    rw (lt-ltb y.key x.key h, ne_eqb y.key x.key (λ (e : y.key ≡ x.key). omega arith), le-ltb x.key y.key (omega arith))
    refl

-- both have it
pub both_first : (x : Pair) (xs : List Pair) (y : Pair) (ys : List Pair) → x.key ≡ y.key → above y.key ys ≡ true
    → differ (x ∷ xs) (y ∷ ys) ≡ against x (some y.value) ++ differ xs ys
both_first x xs y ys e a =
    let b : above x.key ys ≡ true = rw e a in
    rw (
      le-ltb y.key x.key (omega arith),
      eq-eqb y.key x.key (sym e),
      le-ltb x.key y.key (omega arith),
      none_before x.key ys b,
      all-behind x.key ys b,
    ) refl

-- ---- what holds of no settings, and stays as settings come in front, holds of all lists that stand by key

module _ (P : List Pair → List Pair → Type 0) (nothing : P [] [])
    (old : (x : Pair) (xs ws : List Pair) → above x.key xs ≡ true → above x.key ws ≡ true → P xs ws → P (x ∷ xs) ws)
    (new : (us : List Pair) (y : Pair) (ys : List Pair) → above y.key us ≡ true → above y.key ys ≡ true → P us ys → P us (y ∷ ys))
    (both : (x : Pair) (xs : List Pair) (y : Pair) (ys : List Pair) → x.key ≡ y.key → above x.key xs ≡ true → above y.key ys ≡ true
    → P xs ys → P (x ∷ xs) (y ∷ ys)) where
  news : (ws : List Pair) → rising ws ≡ true → P [] ws
  news [] q = nothing
  news (y ∷ ys) q = let (b, o) = both_true (above y.key ys) (rising ys) q in new [] y ys refl b (news ys o)

  beside : (x : Pair) (xs : List Pair) → above x.key xs ≡ true → ((ws : List Pair) → rising ws ≡ true → P xs ws) → (ws : List Pair)
      → rising ws ≡ true → P (x ∷ xs) ws
  beside x xs a ih [] q = old x xs [] a refl (ih [] refl)
  beside x xs a ih (y ∷ ys) q =
      let (b, o) = both_true (above y.key ys) (rising ys) q in
      at b o (ltb x.key y.key) refl (ltb y.key x.key) refl (λ r. beside x xs a ih ys r)
    where
      at : above y.key ys ≡ true → rising ys ≡ true → (m : Bool) → ltb x.key y.key ≡ m → (n : Bool) → ltb y.key x.key ≡ n
          → (rising ys ≡ true → P (x ∷ xs) ys)
          → P (x ∷ xs) (y ∷ ys)
      at b o true e n f on = old x xs (y ∷ ys) a (above-cons x.key y ys (ltb-true x.key y.key e) b) (ih (y ∷ ys) q)
      at b o false e true f on = new (x ∷ xs) y ys (above-cons y.key x xs (ltb-true y.key x.key f) a) b (on o)
      at b o false e false f on = both x xs y ys (omega (arith, ltb-false x.key y.key e, ltb-false y.key x.key f)) a b (ih ys o)

  pub by-merge : (us ws : List Pair) → rising us ≡ true → rising ws ≡ true → P us ws
  by-merge [] ws r q = news ws q
  by-merge (x ∷ xs) ws r q = let (a, p) = both_true (above x.key xs) (rising xs) r in beside x xs a (λ zs o. by-merge xs zs p o) ws q

-- what a key is found with stands there
pub find-in : (k x : ℕ) (us : List Pair) → find k us ≡ some x → In (pair k x) us
find-in k x [] h = absurd (let n : ◌≡◌ {A = ℕ} 0 1 = cc in omega arith)
find-in k x (u ∷ us) h = at (eqb u.key k) refl h (λ g. find-in k x us g)
  where
    at : (b : Bool) → eqb u.key k ≡ b → pick b (some u.value) (find k us) ≡ some x → (find k us ≡ some x → In (pair k x) us)
        → In (pair k x) (u ∷ us)
    at true e g ih = let v : u.value ≡ x = cc in inl (λ i. record { key = sym (eqb-true u.key k e) i; value = sym v i })
    at false e g ih = inr (ih g)
