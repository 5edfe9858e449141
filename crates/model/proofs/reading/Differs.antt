-- What the difference of two lists that stand by key says of them: 2026-03's sentences, of plain settings.
-- Assumes nothing.
use Prim.Native.Nat.{ℕ, ◌<◌}
use native.Mathlib.Omega.{arith}
use mathlib.Core.Bool.{Bool, true, false, ◌||◌, not}
use mathlib.Core.Option.{Option, none, some}
use mathlib.Core.Path.{◌≡◌, refl, ap, ap₂, sym, ◌∙◌, subst}
use mathlib.Core.List.{List, [], ◌∷◌, ◌++◌, map}
use lib.Dec.{ltb, eqb}
use borrow.Author.Tests.{ltb-true, le-ltb, eqb-true, eqb-false, eq-eqb, ne_eqb}
use Rattle.model.specs.Basic.{all, those, keep, pick, in_order, is_empty}
use Rattle.model.specs.declared.Pair.{Pair}
use Rattle.model.specs.declared.Delta.{Delta}
use Rattle.model.specs.Entry.{pair, enter_pair}
use Rattle.model.specs.Walk.{find}
use Rattle.model.specs.Differ.{added, removed, changed, against, differ, of, names, says_of, applied_one, apply, exchanged}
use Rattle.model.specs.Inner.{rising}
use Rattle.model.proofs.lists.Lists.{both_true, both-intro, all_cons}
use Rattle.model.proofs.lists.Merging.{above, find-above, old-first, new-first, both_first, by-merge}

-- ---- a test of every difference, from a test of every key

module _ (f : ℕ → Bool) where
  abbrev Keys : List Delta → Type 0
  Keys ds = all (λ (d : Delta). f d.key) ds ≡ true

  keys-against : (x : Pair) (o : Option ℕ) (ds : List Delta) → f x.key ≡ true → Keys ds → Keys (against x o ++ ds)
  keys-against x none ds h k = both-intro (f x.key) _ h k
  keys-against x (some z) ds h k = at (eqb x.value z)
    where
      at : (b : Bool) → Keys (pick b [] (changed x z ∷ []) ++ ds)
      at true = k
      at false = both-intro (f x.key) _ h k

  pub keys-so : (us ws : List Pair) → rising us ≡ true → rising ws ≡ true → all (λ (x : Pair). f x.key) us ≡ true
      → all (λ (x : Pair). f x.key) ws ≡ true → Keys (differ us ws)
  keys-so = by-merge (λ us ws. all (λ (x : Pair). f x.key) us ≡ true → all (λ (x : Pair). f x.key) ws ≡ true → Keys (differ us ws))
      (λ i j. refl)
      (λ x xs ws a b ih i j. let (p, q) = all_cons (λ (z : Pair). f z.key) x xs i in
      subst Keys (sym (old-first x xs ws b)) (both-intro (f x.key) _ p (ih q j)))
      (λ us y ys a b ih i j. let (p, q) = all_cons (λ (z : Pair). f z.key) y ys j in
      subst Keys (sym (new-first us y ys a)) (both-intro (f y.key) _ p (ih i q)))
      (λ x xs y ys e a b ih i j. let (p, q) = all_cons (λ (z : Pair). f z.key) x xs i in
      subst Keys (sym (both_first x xs y ys e b))
      (keys-against x (some y.value) (differ xs ys) p (ih q (all_cons (λ (z : Pair). f z.key) y ys j).1)))

-- ---- "in key order", and no key twice

abbrev pub before : Delta → Delta → Bool
before d e = ltb d.key e.key

abbrev Stand : List Delta → Type 0
Stand ds = in_order before ds ≡ true

pub in_order_lem : (us ws : List Pair) → rising us ≡ true → rising ws ≡ true → Stand (differ us ws)
in_order_lem us ws r q = by-merge (λ us ws. rising us ≡ true → rising ws ≡ true → Stand (differ us ws))
    (λ i j. refl)
    (λ x xs ws a b ih i j. let p = (both_true (above x.key xs) (rising xs) i).1 in
    subst Stand (sym (old-first x xs ws b)) (both-intro _ (in_order before (differ xs ws)) (keys-so (ltb x.key) xs ws p j a b) (ih p j)))
    (λ us y ys a b ih i j. let p = (both_true (above y.key ys) (rising ys) j).1 in
    subst Stand (sym (new-first us y ys a)) (both-intro _ (in_order before (differ us ys)) (keys-so (ltb y.key) us ys i p a b) (ih i p)))
    (λ x xs y ys e a b ih i j.
    let p = (both_true (above x.key xs) (rising xs) i).1 in
    let o = (both_true (above y.key ys) (rising ys) j).1 in
    let c : above x.key ys ≡ true = rw e b in
    subst Stand (sym (both_first x xs y ys e b))
    (at x y.value (differ xs ys) (keys-so (ltb x.key) xs ys p o a c) (ih p o) (eqb x.value y.value)))
    us ws r q r q
  where
    at : (x : Pair) (z : ℕ) (ds : List Delta) → all (λ (d : Delta). ltb x.key d.key) ds ≡ true → Stand ds → (b : Bool)
        → Stand (pick b [] (changed x z ∷ []) ++ ds)
    at x z ds k s true = s
    at x z ds k s false = both-intro _ (in_order before ds) k s

-- ---- what it says of a key

module _ (k : ℕ) where
  abbrev Says : List Pair → List Pair → Type 0
  Says us ws = of k (differ us ws) ≡ says_of k (find k us) (find k ws)

  -- nothing of a key below all of them
  silent : (xs ys : List Pair) → above k xs ≡ true → above k ys ≡ true → Says xs ys → of k (differ xs ys) ≡ []
  silent xs ys a b ih = ih ∙ ap₂ (says_of k) (find-above k xs a) (find-above k ys b)

  says-old : (x : Pair) (xs ws : List Pair) → above x.key xs ≡ true → above x.key ws ≡ true → Says xs ws → Says (x ∷ xs) ws
  says-old x xs ws a b ih = ap (of k) (old-first x xs ws b) ∙ at (eqb x.key k) refl
    where
      at : (t : Bool) → eqb x.key k ≡ t → keep t (removed x) (of k (differ xs ws))
          ≡ says_of k (pick t (some x.value) (find k xs)) (find k ws)
      at true e =
          let q : x.key ≡ k = eqb-true x.key k e in
          let a' : above k xs ≡ true = rw (sym q) a in
          let b' : above k ws ≡ true = rw (sym q) b in
          ap₂ (λ (j : ℕ) (ds : List Delta). removed (pair j x.value) ∷ ds) q (silent xs ws a' b' ih)
          ∙ ap (says_of k (some x.value)) (sym (find-above k ws b'))
      at false e = ih

  says-new : (us : List Pair) (y : Pair) (ys : List Pair) → above y.key us ≡ true → above y.key ys ≡ true → Says us ys
      → Says us (y ∷ ys)
  says-new us y ys a b ih = ap (of k) (new-first us y ys a) ∙ at (eqb y.key k) refl
    where
      at : (t : Bool) → eqb y.key k ≡ t → keep t (added y) (of k (differ us ys))
          ≡ says_of k (find k us) (pick t (some y.value) (find k ys))
      at true e =
          let q : y.key ≡ k = eqb-true y.key k e in
          let a' : above k us ≡ true = rw (sym q) a in
          let b' : above k ys ≡ true = rw (sym q) b in
          ap₂ (λ (j : ℕ) (ds : List Delta). added (pair j y.value) ∷ ds) q (silent us ys a' b' ih)
          ∙ ap (λ (o : Option ℕ). says_of k o (some y.value)) (sym (find-above k us a'))
      at false e = ih

  says_both : (x : Pair) (xs : List Pair) (y : Pair) (ys : List Pair) → x.key ≡ y.key → above x.key xs ≡ true
      → above y.key ys ≡ true → Says xs ys → Says (x ∷ xs) (y ∷ ys)
  says_both x xs y ys e a b ih =
      ap (of k) (both_first x xs y ys e b) ∙ at (eqb x.key k) refl
      ∙ ap (λ (j : ℕ). says_of k (find k (x ∷ xs)) (pick (eqb j k) (some y.value) (find k ys))) e
    where
      same : (q : x.key ≡ k) (t : Bool) → of k (differ xs ys) ≡ []
          → of k (pick t [] (changed x y.value ∷ []) ++ differ xs ys) ≡ pick t [] (changed (pair k x.value) y.value ∷ [])
      same q true z = z
      same q false z = rw (eq-eqb x.key k q) (ap₂ (λ (j : ℕ) (ds : List Delta). changed (pair j x.value) y.value ∷ ds) q z)

      other : (n : eqb x.key k ≡ false) (t : Bool) → of k (pick t [] (changed x y.value ∷ []) ++ differ xs ys) ≡ of k (differ xs ys)
      other n true = refl
      other n false = rw n

      at : (t : Bool) → eqb x.key k ≡ t → of k (against x (some y.value) ++ differ xs ys)
          ≡ says_of k (pick t (some x.value) (find k xs)) (pick t (some y.value) (find k ys))
      at true n =
          let q : x.key ≡ k = eqb-true x.key k n in
          let a' : above k xs ≡ true = rw (sym q) a in
          let b' : above k ys ≡ true = rw (sym (sym e ∙ q)) b in
          same q (eqb x.value y.value) (silent xs ys a' b' ih)
      at false n = other n (eqb x.value y.value) ∙ ih

  pub says : (us ws : List Pair) → rising us ≡ true → rising ws ≡ true → of k (differ us ws) ≡ says_of k (find k us) (find k ws)
  says = by-merge Says refl says-old says-new says_both

-- ---- "complete", "names nothing unchanged"

names_of : (k : ℕ) (ds : List Delta) → names k ds ≡ not (is_empty (of k ds))
names_of k [] = refl
names_of k (d ∷ ds) = at (eqb d.key k) (names_of k ds)
  where
    at : (b : Bool) → names k ds ≡ not (is_empty (of k ds)) → (b || names k ds) ≡ not (is_empty (keep b d (of k ds)))
    at true ih = refl
    at false ih = ih

-- two answers that differ are told
differing : (k : ℕ) (o p : Option ℕ) → (o ≡ p → ⊥) → not (is_empty (says_of k o p)) ≡ true
differing k none none n = absurd (n refl)
differing k none (some y) n = refl
differing k (some x) none n = refl
differing k (some x) (some y) n = at (eqb x y) refl
  where
    at : (b : Bool) → eqb x y ≡ b → not (is_empty (pick b [] (changed (pair k x) y ∷ []))) ≡ true
    at true e = absurd (n (ap (λ (z : ℕ). some z) (eqb-true x y e)))
    at false e = refl

-- two that do not are not
alike : (k : ℕ) (o : Option ℕ) → not (is_empty (says_of k o o)) ≡ false
alike k none = refl
alike k (some x) = rw (eq-eqb x x refl)

module _ (us ws : List Pair) (r : rising us ≡ true) (q : rising ws ≡ true) (k : ℕ) where
  pub complete : (find k us ≡ find k ws → ⊥) → names k (differ us ws) ≡ true
  complete n =
      names_of k (differ us ws) ∙ ap (λ (ds : List Delta). not (is_empty ds)) (says k us ws r q) ∙ differing k (find k us) (find k ws) n

  pub unchanged : find k us ≡ find k ws → names k (differ us ws) ≡ false
  unchanged e =
      names_of k (differ us ws) ∙ ap (λ (ds : List Delta). not (is_empty ds)) (says k us ws r q)
      ∙ ap (λ (o : Option ℕ). not (is_empty (says_of k (find k us) o))) (sym e) ∙ alike k (find k us)

-- ---- "applying it to the first version's settings gives the second's"

-- the settings without a key below them all
pub without : (k : ℕ) (xs : List Pair) → above k xs ≡ true → those (λ (y : Pair). not (eqb y.key k)) xs ≡ xs
without k [] a = refl
without k (x ∷ xs) a =
    let (p, q) = all_cons (λ (y : Pair). ltb k y.key) x xs a in
    rw (ne_eqb x.key k (λ (e : x.key ≡ k). omega (arith, ltb-true k x.key p))) (ap (λ (zs : List Pair). x ∷ zs) (without k xs q))

pub in-front : (p : Pair) (xs : List Pair) → above p.key xs ≡ true → enter_pair p xs ≡ p ∷ xs
in-front p [] a = refl
in-front p (x ∷ xs) a = rw (all_cons (λ (y : Pair). ltb p.key y.key) x xs a).0

-- what stands before all the keys that differ stays
apply-behind : (x : Pair) (ds : List Delta) (us : List Pair) → all (λ (d : Delta). ltb x.key d.key) ds ≡ true
    → apply ds (x ∷ us) ≡ x ∷ apply ds us
apply-behind x [] us h = refl
apply-behind x (d ∷ ds) us h =
    let (p, q) = all_cons (λ (e : Delta). ltb x.key e.key) d ds h in
    let l : x.key < d.key = ltb-true x.key d.key p in
    let e : applied_one d (x ∷ us) ≡ x ∷ applied_one d us
    = rw (ne_eqb x.key d.key (λ (z : x.key ≡ d.key). omega arith), le-ltb d.key x.key (omega arith))
    (one (eqb d.kind 1)) in
    ap (apply ds) e ∙ apply-behind x ds (applied_one d us) q
  where
    rest : List Pair
    rest = those (λ (y : Pair). not (eqb y.key d.key)) us

    one : (b : Bool) → pick b (x ∷ rest) (x ∷ enter_pair (pair d.key d.new) rest)
        ≡ x ∷ pick b rest (enter_pair (pair d.key d.new) rest)
    one true = refl
    one false = refl

pub applied : (us ws : List Pair) → rising us ≡ true → rising ws ≡ true → apply (differ us ws) us ≡ ws
applied us ws r q = by-merge (λ us ws. rising us ≡ true → rising ws ≡ true → apply (differ us ws) us ≡ ws)
    (λ i j. refl) old new both us ws r q r q
  where
    old : (x : Pair) (xs ws : List Pair) → above x.key xs ≡ true → above x.key ws ≡ true
        → (rising xs ≡ true → rising ws ≡ true → apply (differ xs ws) xs ≡ ws)
        → rising (x ∷ xs) ≡ true → rising ws ≡ true → apply (differ (x ∷ xs) ws) (x ∷ xs) ≡ ws
    old x xs ws a b ih i j =
        ap (λ (ds : List Delta). apply ds (x ∷ xs)) (old-first x xs ws b)
        ∙ ap (apply (differ xs ws)) (rw (eq-eqb x.key x.key refl) (without x.key xs a))
        ∙ ih (both_true (above x.key xs) (rising xs) i).1 j

    new : (us : List Pair) (y : Pair) (ys : List Pair) → above y.key us ≡ true → above y.key ys ≡ true
        → (rising us ≡ true → rising ys ≡ true → apply (differ us ys) us ≡ ys)
        → rising us ≡ true → rising (y ∷ ys) ≡ true → apply (differ us (y ∷ ys)) us ≡ y ∷ ys
    new us y ys a b ih i j =
        let o = (both_true (above y.key ys) (rising ys) j).1 in
        ap (λ (ds : List Delta). apply ds us) (new-first us y ys a)
        ∙ ap (λ (zs : List Pair). apply (differ us ys) (enter_pair y zs)) (without y.key us a)
        ∙ ap (apply (differ us ys)) (in-front y us a)
        ∙ apply-behind y (differ us ys) us (keys-so (ltb y.key) us ys i o a b) ∙ ap (λ (zs : List Pair). y ∷ zs) (ih i o)

    both : (x : Pair) (xs : List Pair) (y : Pair) (ys : List Pair) → x.key ≡ y.key → above x.key xs ≡ true → above y.key ys ≡ true
        → (rising xs ≡ true → rising ys ≡ true → apply (differ xs ys) xs ≡ ys) → rising (x ∷ xs) ≡ true → rising (y ∷ ys) ≡ true
        → apply (differ (x ∷ xs) (y ∷ ys)) (x ∷ xs) ≡ y ∷ ys
    both x xs y ys e a b ih i j =
        let p = (both_true (above x.key xs) (rising xs) i).1 in
        let o = (both_true (above y.key ys) (rising ys) j).1 in
        let c : above x.key ys ≡ true = rw e b in
        ap (λ (ds : List Delta). apply ds (x ∷ xs)) (both_first x xs y ys e b)
        ∙ at (keys-so (ltb x.key) xs ys p o a c) (eqb x.value y.value) refl
        ∙ ap₂ (λ (k : ℕ) (zs : List Pair). pair k y.value ∷ zs) e (ih p o)
      where
        at : all (λ (d : Delta). ltb x.key d.key) (differ xs ys) ≡ true → (t : Bool) → eqb x.value y.value ≡ t
            → apply (pick t [] (changed x y.value ∷ []) ++ differ xs ys) (x ∷ xs) ≡ pair x.key y.value ∷ apply (differ xs ys) xs
        at h true f =
            apply-behind x (differ xs ys) xs h ∙ ap (λ (z : ℕ). pair x.key z ∷ apply (differ xs ys) xs)
            (eqb-true x.value y.value f)
        at h false f =
            let g : applied_one (changed x y.value) (x ∷ xs) ≡ pair x.key y.value ∷ xs =
            rw (eq-eqb x.key x.key refl)
            (ap (enter_pair (pair x.key y.value)) (without x.key xs a) ∙ in-front (pair x.key y.value) xs a) in
            ap (apply (differ xs ys)) g ∙ apply-behind (pair x.key y.value) (differ xs ys) xs h

-- ---- equal settings, and the two sides exchanged

pub none-differs : (us : List Pair) → rising us ≡ true → differ us us ≡ []
none-differs [] r = refl
none-differs (x ∷ xs) r =
    let (a, p) = both_true (above x.key xs) (rising xs) r in
    both_first x xs x xs refl a ∙ rw (eq-eqb x.value x.value refl) (none-differs xs p)

pub sides : (us ws : List Pair) → rising us ≡ true → rising ws ≡ true → differ ws us ≡ map exchanged (differ us ws)
sides = by-merge (λ us ws. differ ws us ≡ map exchanged (differ us ws)) refl
    (λ x xs ws a b ih. new-first ws x xs b ∙ ap (λ (ds : List Delta). added x ∷ ds) ih ∙ sym (ap (map exchanged) (old-first x xs ws b)))
    (λ us y ys a b ih. old-first y ys us a ∙ ap (λ (ds : List Delta). removed y ∷ ds) ih ∙ sym (ap (map exchanged) (new-first us y ys a)))
    (λ x xs y ys e a b ih. both_first y ys x xs (sym e) a ∙ at x y e (differ xs ys) (differ ys xs) ih (eqb x.value y.value) refl
    ∙ sym (ap (map exchanged) (both_first x xs y ys e b)))
  where
    at : (x y : Pair) → x.key ≡ y.key → (ds es : List Delta) → es ≡ map exchanged ds → (t : Bool) → eqb x.value y.value ≡ t
        → against y (some x.value) ++ es ≡ map exchanged (pick t [] (changed x y.value ∷ []) ++ ds)
    at x y e ds es ih true f = rw (eq-eqb y.value x.value (sym (eqb-true x.value y.value f))) ih
    at x y e ds es ih false f =
        rw (ne_eqb y.value x.value (λ (z : y.value ≡ x.value). eqb-false x.value y.value f (sym z)))
        (ap₂ (λ (k : ℕ) (zs : List Delta). changed (pair k y.value) x.value ∷ zs) (sym e) ih)
