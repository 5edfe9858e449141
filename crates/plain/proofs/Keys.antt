-- A list that stands by key is what each key in turn has in it: so the plain engine's settings and differences, told key by key, are those
-- of lists in key order.
-- Assumes nothing.
use Prim.Native.Nat.{ℕ, zero, suc, ◌+◌, ◌-◌, ◌≤◌, ◌<◌}
use native.Mathlib.Omega.{arith}
use mathlib.Core.Bool.{Bool, true, false, ◌&&◌}
use mathlib.Core.Option.{some}
use mathlib.Core.Path.{◌≡◌, refl, ap, ap₂, sym, ◌∙◌, subst}
use mathlib.Core.List.{List, [], ◌∷◌, ◌++◌}
use lib.Dec.{leb, ltb, eqb}
use borrow.Author.Tests.{leb-true, ltb-true, lt-ltb, le-leb, eqb-true, eqb-false, ne_eqb}
use Rattle.model.specs.Basic.{pick, those, keep, all, in_order, flat_map, count}
use Rattle.model.specs.declared.Pair.{Pair}
use Rattle.model.specs.declared.Entry.{Entry}
use Rattle.model.specs.declared.Delta.{Delta}
use Rattle.model.specs.Entry.{pair}
use Rattle.model.specs.Walk.{key_limit, find, between}
use Rattle.model.specs.Inner.{rising}
use Rattle.model.specs.Differ.{differ, says_of}
use Rattle.model.proofs.lists.Lists.{both_true, both-intro, all_cons}
use Rattle.model.proofs.lists.Members.{all-implies}
use Rattle.model.proofs.reading.Differs.{keys-so, in_order_lem, says}
use Rattle.plain.specs.Plain.{value_at, setting, settings, keys, differs}
use Rattle.plain.proofs.laws.Scan.{keys-limit}

module _ {A : Type 0} (key : A → ℕ) where
  -- those of one key
  abbrev by : ℕ → List A → List A
  by k xs = those (λ (x : A). eqb (key x) k) xs

  abbrev rises : List A → Bool
  rises xs = in_order (λ (x y : A). ltb (key x) (key y)) xs

  by-above : (k : ℕ) (xs : List A) → all (λ (x : A). ltb k (key x)) xs ≡ true → by k xs ≡ []
  by-above k [] h = refl
  by-above k (x ∷ xs) h =
      let (a, b) = all_cons (λ (y : A). ltb k (key y)) x xs h in
      let up : k < key x = ltb-true k (key x) a in
      ap (λ (c : Bool). keep c x (by k xs)) (ne_eqb (key x) k (λ (z : key x ≡ k). omega arith)) ∙ by-above k xs b

  by-other : (k : ℕ) (x : A) (xs : List A) → (key x ≡ k → ⊥) → by k (x ∷ xs) ≡ by k xs
  by-other k x xs n = ap (λ (c : Bool). keep c x (by k xs)) (ne_eqb (key x) k n)

  -- each key from a on in turn
  pub keys-in-turn : (f : ℕ → List A) (n a : ℕ) (xs : List A) → rises xs ≡ true → all (λ (x : A). leb a (key x)) xs ≡ true
      → all (λ (x : A). ltb (key x) (a + n)) xs ≡ true
      → ((k : ℕ) → a ≤ k → k < a + n → f k ≡ by k xs) → flat_map f (count a n) ≡ xs
  keys-in-turn f zero a [] r low high is = refl
  keys-in-turn f zero a (x ∷ xs) r low high is =
      let p : a ≤ key x = leb-true a (key x) (all_cons (λ (y : A). leb a (key y)) x xs low).0 in
      let q : key x < a + 0 = ltb-true (key x) (a + 0) (all_cons (λ (y : A). ltb (key y) (a + 0)) x xs high).0 in
      absurd (omega arith)
  keys-in-turn f (suc n) a [] r low high is =
      ap₂ {C = List A} (λ (ys zs : List A). ys ++ zs) (is a (omega arith) (omega arith))
      (keys-in-turn f n (suc a) [] refl refl refl (λ k h i. is k (omega arith) (omega arith)))
  keys-in-turn f (suc n) a (x ∷ xs) r low high is = at (eqb (key x) a) refl (λ ys. keys-in-turn f n (suc a) ys)
    where
      above : all (λ (y : A). ltb (key x) (key y)) xs ≡ true
      above = (both_true (all (λ (y : A). ltb (key x) (key y)) xs) (rises xs) r).0

      low_x : a ≤ key x
      low_x = leb-true a (key x) (all_cons (λ (y : A). leb a (key y)) x xs low).0

      at : (b : Bool) → eqb (key x) a ≡ b
          → ((ys : List A) → rises ys ≡ true → all (λ (y : A). leb (suc a) (key y)) ys ≡ true
          → all (λ (y : A). ltb (key y) (suc a + n)) ys ≡ true
          → ((k : ℕ) → suc a ≤ k → k < suc a + n → f k ≡ by k ys) → flat_map f (count (suc a) n) ≡ ys)
          → flat_map f (count a (suc n)) ≡ x ∷ xs
      at true e ih =
          let same : key x ≡ a = eqb-true (key x) a e in
          ap₂ {C = List A} (λ (ys zs : List A). ys ++ zs)
          (is a (omega arith) (omega arith) ∙ ap₂ {C = List A} (λ (c : Bool) (ys : List A). keep c x ys) e
          (by-above a xs
          (all-implies _ _ (λ y h. lt-ltb a (key y) (let z : key x < key y = ltb-true (key x) (key y) h in omega arith)) xs above)))
          (ih xs (both_true (all (λ (y : A). ltb (key x) (key y)) xs) (rises xs) r).1
          (all-implies _ _ (λ y h. le-leb (suc a) (key y) (let z : key x < key y = ltb-true (key x) (key y) h in omega arith)) xs above)
          (all-implies _ _ (λ y h. lt-ltb (key y) (suc a + n) (let z : key y < a + suc n = ltb-true (key y) (a + suc n) h in omega arith))
          xs (all_cons (λ (y : A). ltb (key y) (a + suc n)) x xs high).1)
          (λ k h i. is k (omega arith) (omega arith) ∙ by-other k x xs (λ (z : key x ≡ k). omega arith)))
      at false e ih =
          let less : a < key x = omega (arith, low_x, eqb-false (key x) a e) in
          let all_above : all (λ (y : A). ltb a (key y)) (x ∷ xs) ≡ true
          = both-intro (ltb a (key x)) (all (λ (y : A). ltb a (key y)) xs) (lt-ltb a (key x) less)
          (all-implies _ _ (λ y h. lt-ltb a (key y) (let z : key x < key y = ltb-true (key x) (key y) h in omega arith)) xs above) in
          ap₂ {C = List A} (λ (ys zs : List A). ys ++ zs) (is a (omega arith) (omega arith) ∙ by-above a (x ∷ xs) all_above)
          (ih (x ∷ xs) r
          (all-implies _ _ (λ y h. le-leb (suc a) (key y) (let z : a < key y = ltb-true a (key y) h in omega arith)) (x ∷ xs) all_above)
          (all-implies _ _ (λ y h. lt-ltb (key y) (suc a + n) (let z : key y < a + suc n = ltb-true (key y) (a + suc n) h in omega arith))
          (x ∷ xs) high)
          (λ k h i. is k (omega arith) (omega arith)))

-- ---- the settings from lo to hi

abbrev key_of : Pair → ℕ
key_of p = p.key

by-find : (k : ℕ) (us : List Pair) → rising us ≡ true → by key_of k us ≡ setting k (find k us)
by-find k [] r = refl
by-find k (u ∷ us) r = at (eqb u.key k) refl (by-find k us (both_true (all (λ (y : Pair). ltb u.key y.key) us) (rising us) r).1)
  where
    at : (b : Bool) → eqb u.key k ≡ b → by key_of k us ≡ setting k (find k us)
        → keep b u (by key_of k us) ≡ setting k (pick b (some u.value) (find k us))
    at true e ih =
        let same : u.key ≡ k = eqb-true u.key k e in
        ap₂ {C = List Pair} (λ (n : ℕ) (ys : List Pair). pair n u.value ∷ ys) same
        (by-above key_of k us
        (subst (λ (n : ℕ). all (λ (y : Pair). ltb n y.key) us ≡ true) same
        (both_true (all (λ (y : Pair). ltb u.key y.key) us) (rising us) r).0))
    at false e ih = ih

module _ (lo hi : ℕ) where
  inside : Pair → Bool
  inside u = leb lo u.key && leb u.key hi

  by-between : (k : ℕ) → lo ≤ k → k ≤ hi → (us : List Pair) → by key_of k (between lo hi us) ≡ by key_of k us
  by-between k low high [] = refl
  by-between k low high (u ∷ us) = at (leb lo u.key && leb u.key hi) refl (eqb u.key k) refl (by-between k low high us)
    where
      at : (b : Bool) → (leb lo u.key && leb u.key hi) ≡ b → (c : Bool) → eqb u.key k ≡ c
          → by key_of k (between lo hi us) ≡ by key_of k us → by key_of k (keep b u (between lo hi us)) ≡ keep c u (by key_of k us)
      at true i c e ih = ap₂ {C = List Pair} (λ (d : Bool) (ys : List Pair). keep d u ys) e ih
      at false i true e ih =
          let same : u.key ≡ k = eqb-true u.key k e in
          let yes : (leb lo u.key && leb u.key hi) ≡ true
          = both-intro (leb lo u.key) (leb u.key hi) (le-leb lo u.key (omega arith)) (le-leb u.key hi (omega arith)) in
          absurd (not-both-ways (sym yes ∙ i))
        where
          not-both-ways : true ≡ false → ⊥
          not-both-ways z = let y : ◌≡◌ {A = ℕ} 0 1 = cc in omega arith
      at false i false e ih = ih

  all-between : (g : Pair → Bool) (us : List Pair) → all g us ≡ true → all g (between lo hi us) ≡ true
  all-between g [] h = refl
  all-between g (u ∷ us) h = let (a, b) = all_cons g u us h in at (leb lo u.key && leb u.key hi) a (all-between g us b)
    where
      at : (c : Bool) → g u ≡ true → all g (between lo hi us) ≡ true → all g (keep c u (between lo hi us)) ≡ true
      at true a ih = both-intro (g u) _ a ih
      at false a ih = ih

  rising-between : (us : List Pair) → rising us ≡ true → rising (between lo hi us) ≡ true
  rising-between [] r = refl
  rising-between (u ∷ us) r =
      let (a, b) = both_true (all (λ (y : Pair). ltb u.key y.key) us) (rising us) r in
      at (leb lo u.key && leb u.key hi) a (rising-between us b)
    where
      at : (c : Bool) → all (λ (y : Pair). ltb u.key y.key) us ≡ true → rising (between lo hi us) ≡ true
          → rising (keep c u (between lo hi us)) ≡ true
      at true a ih =
          both-intro (all (λ (y : Pair). ltb u.key y.key) (between lo hi us)) _
          (all-between (λ (y : Pair). ltb u.key y.key) us a) ih
      at false a ih = ih

  between-inside : (us : List Pair) → all (λ (u : Pair). leb lo u.key && leb u.key hi) (between lo hi us) ≡ true
  between-inside [] = refl
  between-inside (u ∷ us) = at (leb lo u.key && leb u.key hi) refl (between-inside us)
    where
      at : (c : Bool) → (leb lo u.key && leb u.key hi) ≡ c
          → all (λ (y : Pair). leb lo y.key && leb y.key hi) (between lo hi us) ≡ true
          → all (λ (y : Pair). leb lo y.key && leb y.key hi) (keep c u (between lo hi us)) ≡ true
      at true i ih = both-intro (leb lo u.key && leb u.key hi) _ i ih
      at false i ih = ih

  pub settings-are : (v : ℕ) (es : List Entry) (us : List Pair) → lo ≤ hi → rising us ≡ true
      → ((k : ℕ) → k ≤ hi → value_at k v es ≡ find k us) → settings lo hi v es ≡ between lo hi us
  settings-are v es us h r same =
      keys-in-turn key_of (λ (k : ℕ). setting k (value_at k v es)) (suc hi - lo) lo (between lo hi us) (rising-between us r)
      (all-implies _ _ (λ y i. (both_true (leb lo y.key) (leb y.key hi) i).0) (between lo hi us) (between-inside us))
      (all-implies _ _
      (λ y i. lt-ltb y.key (lo + (suc hi - lo))
      (let z : y.key ≤ hi = leb-true y.key hi (both_true (leb lo y.key) (leb y.key hi) i).1 in omega arith)) (between lo hi us)
      (between-inside us))
      (λ k a b. let high : k ≤ hi = omega arith in ap (setting k) (same k high) ∙ sym (by-find k us r) ∙ sym (by-between k a high us))

-- ---- what differs

abbrev small : List Pair → Bool
small us = all (λ (u : Pair). ltb u.key key_limit) us

pub differs-are : (u v : ℕ) (es : List Entry) (us ws : List Pair) → rising us ≡ true → rising ws ≡ true → small us ≡ true → small ws ≡ true
    → ((k : ℕ) → k < key_limit → value_at k u es ≡ find k us) → ((k : ℕ) → k < key_limit → value_at k v es ≡ find k ws)
    → differs u v es ≡ differ us ws
differs-are u v es us ws r q i j old new =
    keys-in-turn (λ (d : Delta). d.key) (λ (k : ℕ). says_of k (value_at k u es) (value_at k v es)) keys 0 (differ us ws) (in_order_lem us ws r q)
    (all-implies _ _ (λ y h. le-leb 0 y.key (omega arith)) (differ us ws) (keys-so (λ (k : ℕ). ltb k key_limit) us ws r q i j))
    (all-implies _ _
    (λ y h. lt-ltb y.key (0 + keys) (let z : y.key < key_limit = ltb-true y.key key_limit h in omega (arith, keys-limit)))
    (differ us ws) (keys-so (λ (k : ℕ). ltb k key_limit) us ws r q i j))
    (λ k a b. let low : k < key_limit = omega (arith, keys-limit) in ap₂ (says_of k) (old k low) (new k low) ∙ sym (says k us ws r q))
