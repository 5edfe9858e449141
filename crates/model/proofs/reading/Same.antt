-- Settings that are the same, key for key: they are equal, nothing differs between them, and no lookup tells them apart. An insert undone
-- by a delete.
-- Assumes nothing.
use Prim.Native.Nat.{ℕ}
use native.Mathlib.Omega.{arith}
use mathlib.Core.Bool.{Bool, true, false, ◌&&◌, not}
use mathlib.Core.Option.{none, some, some-injective}
use mathlib.Core.Path.{◌≡◌, refl, ap, ap₂, sym, ◌∙◌}
use mathlib.Core.List.{List, [], ◌∷◌, ◌++◌}
use lib.Dec.{ltb, eqb}
use borrow.Author.Tests.{eqb-true, eqb-false, eq-eqb, ne_eqb, ltb-true}
use Rattle.model.specs.Basic.{all, pick, keep, those, is_empty}
use Rattle.model.specs.declared.Pair.{Pair}
use Rattle.model.specs.declared.Delta.{Delta}
use Rattle.model.specs.Entry.{pair, placed, enter_pair}
use Rattle.model.specs.Walk.{find}
use Rattle.model.specs.Same.{same_pairs}
use Rattle.model.specs.Differ.{changed, differ}
use Rattle.model.specs.Inner.{rising}
use Rattle.model.proofs.lists.Lists.{both_true, all_cons}
use Rattle.model.proofs.lists.Members.{not-both}
use Rattle.model.proofs.tree.Edit.{missing}
use Rattle.model.proofs.lists.Merging.{above, find-above, by-merge, old-first, new-first, both_first}

-- ---- the test says that they are equal

pub same-equal : (xs ys : List Pair) → same_pairs xs ys ≡ true → xs ≡ ys
same-equal [] [] e = refl
same-equal [] (y ∷ ys) e = absurd (not-both false e refl)
same-equal (x ∷ xs) [] e = absurd (not-both false e refl)
same-equal (x ∷ xs) (y ∷ ys) e =
    let (a, b) = both_true (eqb x.key y.key) (eqb x.value y.value && same_pairs xs ys) e in
    let (c, d) = both_true (eqb x.value y.value) (same_pairs xs ys) b in
    let p : x ≡ y = ap₂ (λ (k v : ℕ). record { key = k; value = v }) (eqb-true x.key y.key a) (eqb-true x.value y.value c) in
    ap₂ {C = List Pair} (λ (z : Pair) (zs : List Pair). z ∷ zs) p (same-equal xs ys d)

pub equal-same : (xs : List Pair) → same_pairs xs xs ≡ true
equal-same [] = refl
equal-same (x ∷ xs) = rw (eq-eqb x.key x.key refl, eq-eqb x.value x.value refl, equal-same xs)

-- ---- nothing differs between them

old-alone : (x : Pair) (xs ws : List Pair) → above x.key ws ≡ true → same_pairs (x ∷ xs) ws ≡ false
old-alone x xs [] a = refl
old-alone x xs (y ∷ ys) a =
    let h = ltb-true x.key y.key (all_cons (λ (z : Pair). ltb x.key z.key) y ys a).0 in
    rw (ne_eqb x.key y.key (λ (z : x.key ≡ y.key). omega arith))

new-alone : (us : List Pair) (y : Pair) (ys : List Pair) → above y.key us ≡ true → same_pairs us (y ∷ ys) ≡ false
new-alone [] y ys a = refl
new-alone (x ∷ xs) y ys a =
    let h = ltb-true y.key x.key (all_cons (λ (z : Pair). ltb y.key z.key) x xs a).0 in
    rw (ne_eqb x.key y.key (λ (z : x.key ≡ y.key). omega arith))

pub same_none : (us ws : List Pair) → rising us ≡ true → rising ws ≡ true → same_pairs us ws ≡ is_empty (differ us ws)
same_none = by-merge (λ us ws. same_pairs us ws ≡ is_empty (differ us ws)) refl
    (λ x xs ws a b ih. old-alone x xs ws b ∙ sym (ap (λ (ds : List Delta). is_empty ds) (old-first x xs ws b)))
    (λ us y ys a b ih. new-alone us y ys a ∙ sym (ap (λ (ds : List Delta). is_empty ds) (new-first us y ys a)))
    (λ x xs y ys e a b ih.
    ap (λ (c : Bool). c && (eqb x.value y.value && same_pairs xs ys)) (eq-eqb x.key y.key e)
    ∙ values x xs y ys (eqb x.value y.value) ih ∙ sym (ap (λ (ds : List Delta). is_empty ds) (both_first x xs y ys e b)))
  where
    values : (x : Pair) (xs : List Pair) (y : Pair) (ys : List Pair) (c : Bool) → same_pairs xs ys ≡ is_empty (differ xs ys)
        → (c && same_pairs xs ys) ≡ is_empty (pick c [] (changed x y.value ∷ []) ++ differ xs ys)
    values x xs y ys true ih = ih
    values x xs y ys false ih = refl

-- ---- key for key

find_head : (x : Pair) (xs : List Pair) → find x.key (x ∷ xs) ≡ some x.value
find_head x xs = rw (eq-eqb x.key x.key refl)

find-tail : (k : ℕ) (x : Pair) (xs : List Pair) → (x.key ≡ k → ⊥) → find k (x ∷ xs) ≡ find k xs
find-tail k x xs n = rw (ne_eqb x.key k n)

not_some : (n : ℕ) → none ≡ some n → ⊥
not_some n e = let z : ◌≡◌ {A = ℕ} 0 1 = cc in omega arith

module _ (f : ℕ → Bool) where
  abbrev Finds : List Pair → List Pair → Type 0
  Finds us ws =
      all (λ (x : Pair). f x.key) us ≡ true → all (λ (x : Pair). f x.key) ws ≡ true → ((k : ℕ) → f k ≡ true → find k us ≡ find k ws)
      → us ≡ ws

  both-find : (x : Pair) (xs : List Pair) (y : Pair) (ys : List Pair) → x.key ≡ y.key → above x.key xs ≡ true
      → above y.key ys ≡ true → Finds xs ys → Finds (x ∷ xs) (y ∷ ys)
  both-find x xs y ys e a b ih i j h =
      let (g, i') = all_cons (λ (z : Pair). f z.key) x xs i in
      let j' = (all_cons (λ (z : Pair). f z.key) y ys j).1 in
      let v : x.value ≡ y.value = some-injective x.value y.value
      (sym (find_head x xs) ∙ h x.key g ∙ ap (λ (k : ℕ). find k (y ∷ ys)) e ∙ find_head y ys) in
      ap₂ {C = List Pair} (λ (z : Pair) (zs : List Pair). z ∷ zs) (ap₂ (λ (k n : ℕ). record { key = k; value = n }) e v)
      (ih i' j' (λ k l. rest k l (eqb x.key k) refl))
    where
      rest : (k : ℕ) → f k ≡ true → (p : Bool) → eqb x.key k ≡ p → find k xs ≡ find k ys
      rest k l true z =
          let u : x.key ≡ k = eqb-true x.key k z in
          ap (λ (n : ℕ). find n xs) (sym u) ∙ find-above x.key xs a ∙ sym (find-above y.key ys b)
          ∙ ap (λ (n : ℕ). find n ys) (sym e ∙ u)
      rest k l false z =
          let n : x.key ≡ k → ⊥ = eqb-false x.key k z in
          sym (find-tail k x xs n) ∙ h k l ∙ find-tail k y ys (λ (u : y.key ≡ k). n (e ∙ u))

  -- Lists that stand by key, and find the same for each key that either has, are equal.
  pub finds-equal : (us ws : List Pair) → rising us ≡ true → rising ws ≡ true → Finds us ws
  finds-equal = by-merge Finds (λ i j h. refl)
      (λ x xs ws a b ih i j h. absurd
      (not_some x.value
      (sym (sym (find_head x xs) ∙ h x.key (all_cons (λ (z : Pair). f z.key) x xs i).0 ∙ find-above x.key ws b))))
      (λ us y ys a b ih i j h. absurd
      (not_some y.value (sym (find-above y.key us a) ∙ h y.key (all_cons (λ (z : Pair). f z.key) y ys j).0 ∙ find_head y ys)))
      both-find

-- ---- an insert undone by a delete

abbrev without : ℕ → List Pair → List Pair
without k us = those (λ (y : Pair). not (eqb y.key k)) us

kept-all : (k : ℕ) (us : List Pair) → find k us ≡ none → without k us ≡ us
kept-all k [] h = refl
kept-all k (u ∷ us) h =
    let (n, t) = missing k u us h in
    rw (ne_eqb u.key k n) (ap (λ (vs : List Pair). u ∷ vs) (kept-all k us t))

pub enter-undone : (k x : ℕ) (us : List Pair) → find k us ≡ none → without k (enter_pair (pair k x) us) ≡ us
enter-undone k x [] h = rw (eq-eqb k k refl)
enter-undone k x (u ∷ us) h = let (n, t) = missing k u us h in at (ltb k u.key) n (enter-undone k x us t)
  where
    at : (b : Bool) → (u.key ≡ k → ⊥) → without k (enter_pair (pair k x) us) ≡ us
        → without k (placed b (pair k x) u us (enter_pair (pair k x) us)) ≡ u ∷ us
    at true n ih = ap (λ (c : Bool). keep (not c) (pair k x) (without k (u ∷ us))) (eq-eqb k k refl) ∙ kept-all k (u ∷ us) h
    at false n ih =
        ap (λ (c : Bool). keep (not c) u (without k (enter_pair (pair k x) us))) (ne_eqb u.key k n) ∙ ap (λ (vs : List Pair). u ∷ vs) ih
