-- Laws about differ/specs/Merge. Assumes nothing.
use Prim.Native.Nat.{ℕ, ◌+◌, ◌≤◌, ◌<◌}
use native.Mathlib.Omega.{arith}
use mathlib.Core.Bool.{Bool, true, false}
use mathlib.Core.Path.{◌≡◌, refl, ap, ap₂, sym, ◌∙◌, subst}
use mathlib.Core.List.{List, [], ◌∷◌, ◌++◌, map}
use lib.Dec.{leb, ltb, eqb}
use borrow.Author.Tests.{leb-true, leb-false, ltb-true, ltb-false, lt-ltb, le-ltb, le-leb, lt-leb}
use Rattle.model.specs.Basic.{keep, pick}
use Rattle.model.specs.declared.Pair.{Pair}
use Rattle.model.specs.Entry.{pair, within}
use Rattle.model.specs.declared.Delta.{Delta}
use Rattle.model.specs.Walk.{key_limit}
use Rattle.model.specs.Differ.{added, removed, changed, differ}
use Rattle.model.specs.Inner.{rising}
use Rattle.model.specs.Tree.{in_range}
use Rattle.model.proofs.lists.Lists.{both_true, both-intro, all_cons}
use Rattle.model.proofs.tree.Edit.{rising-those}
use Rattle.model.proofs.lists.Merging.{above, above_lower, old-first, new-first, both_first}
use Rattle.cursor.specs.First.{at_or_above, leads}
use Rattle.cursor.proofs.laws.First.{above-none, above-all, above_in}
use Rattle.differ.specs.Merge.{compared, told, left, Onward}

-- ---- lists that stand above a key

all-onward : (k : ℕ) (xs : List Pair) → above k xs ≡ true → at_or_above (k + 1) xs ≡ xs
all-onward k [] a = refl
all-onward k (x ∷ xs) a =
    let (p, q) = all_cons (λ (y : Pair). ltb k y.key) x xs a in
    rw (le-leb (k + 1) x.key (omega (arith, ltb-true k x.key p))) (ap (λ (zs : List Pair). x ∷ zs) (all-onward k xs q))

first-gone : (x : Pair) (xs : List Pair) → above x.key xs ≡ true → at_or_above (x.key + 1) (x ∷ xs) ≡ xs
first-gone x xs a = rw (lt-leb (x.key + 1) x.key (omega arith)) (all-onward x.key xs a)

pub above-above : (j k : ℕ) (xs : List Pair) → k ≤ j → at_or_above j (at_or_above k xs) ≡ at_or_above j xs
above-above j k [] h = refl
above-above j k (x ∷ xs) h = at (leb k x.key) refl (above-above j k xs h)
  where
    at : (b : Bool) → leb k x.key ≡ b → at_or_above j (at_or_above k xs) ≡ at_or_above j xs
        → at_or_above j (keep b x (at_or_above k xs)) ≡ keep (leb j x.key) x (at_or_above j xs)
    at true e ih = ap (keep (leb j x.key) x) ih
    at false e ih = rw (lt-leb j x.key (omega (arith, leb-false k x.key e))) ih

-- ---- one step

-- what is left behind a difference
abbrev StepBy : List Pair → List Pair → Delta → Type 0
StepBy us ws d = differ us ws ≡ told d ++ differ (at_or_above (d.key + 1) us) (at_or_above (d.key + 1) ws)

is-old : (x y : Pair) → x.key < y.key → compared x y ≡ removed x
is-old x y h = rw (lt-ltb x.key y.key h)

is-new : (x y : Pair) → y.key < x.key → compared x y ≡ added y
is-new x y h = rw (le-ltb x.key y.key (omega arith), lt-ltb y.key x.key h)

is-both : (x y : Pair) → x.key ≡ y.key → compared x y
    ≡ record { key = x.key; kind = pick (eqb x.value y.value) 3 2; old = x.value; new = y.value }
is-both x y e = rw (le-ltb x.key y.key (omega arith), le-ltb y.key x.key (omega arith))

step-old : (x : Pair) (xs ws : List Pair) → above x.key xs ≡ true → above x.key ws ≡ true → StepBy (x ∷ xs) ws (removed x)
step-old x xs ws a b =
    old-first x xs ws b ∙ ap₂ (λ (us vs : List Pair). removed x ∷ differ us vs) (sym (first-gone x xs a)) (sym (all-onward x.key ws b))

step-new : (x : Pair) (xs : List Pair) (y : Pair) (ys : List Pair) → y.key < x.key → above x.key xs ≡ true → above y.key ys ≡ true
    → StepBy (x ∷ xs) (y ∷ ys) (added y)
step-new x xs y ys h a b =
    let c : above y.key (x ∷ xs) ≡ true = both-intro (ltb y.key x.key) (above y.key xs) (lt-ltb y.key x.key h)
    (above_lower y.key x.key xs a (omega arith)) in
    new-first (x ∷ xs) y ys c ∙ ap₂ (λ (us vs : List Pair). added y ∷ differ us vs) (sym (all-onward y.key (x ∷ xs) c))
    (sym (first-gone y ys b))

told-both : (x y : Pair) (b : Bool) → eqb x.value y.value ≡ b
    → told (record { key = x.key; kind = pick b 3 2; old = x.value; new = y.value }) ≡ pick b [] (changed x y.value ∷ [])
told-both x y true e = refl
told-both x y false e = refl

step_both : (x : Pair) (xs : List Pair) (y : Pair) (ys : List Pair) → x.key ≡ y.key → above x.key xs ≡ true → above y.key ys ≡ true
    → StepBy (x ∷ xs) (y ∷ ys) (record { key = x.key; kind = pick (eqb x.value y.value) 3 2; old = x.value; new = y.value })
step_both x xs y ys e a b =
    let g : at_or_above (x.key + 1) (y ∷ ys) ≡ ys = subst (λ (k : ℕ). at_or_above (k + 1) (y ∷ ys) ≡ ys) (sym e) (first-gone y ys b) in
    both_first x xs y ys e b
    ∙ ap₂ (λ (us vs : List Delta). us ++ vs) (sym (told-both x y (eqb x.value y.value) refl))
    (ap₂ differ (sym (first-gone x xs a)) (sym g))

low_first : (x : Pair) (xs : List Pair) → in_range 0 key_limit (x ∷ xs) ≡ true → x.key < key_limit
low_first x xs i =
    let (here, rest) = all_cons (λ (y : Pair). within 0 key_limit y.key) x xs i in
    ltb-true x.key key_limit (both_true (leb 0 x.key) (ltb x.key key_limit) here).1

steps : (us ws : List Pair) → rising us ≡ true → rising ws ≡ true → in_range 0 key_limit us ≡ true → in_range 0 key_limit ws ≡ true
    → StepBy us ws (compared (leads us) (leads ws))
steps [] [] r q i j = refl
steps (x ∷ xs) [] r q i j =
    subst (StepBy (x ∷ xs) []) (sym (is-old x (pair key_limit 0) (low_first x xs i)))
    (step-old x xs [] (both_true (above x.key xs) (rising xs) r).0 refl)
steps [] (y ∷ ys) r q i j =
    subst (StepBy [] (y ∷ ys)) (sym (is-new (pair key_limit 0) y (low_first y ys j)))
    (ap (λ (zs : List Pair). added y ∷ map added zs) (sym (first-gone y ys (both_true (above y.key ys) (rising ys) q).0)))
steps (x ∷ xs) (y ∷ ys) r q i j =
    let a = (both_true (above x.key xs) (rising xs) r).0 in
    let b = (both_true (above y.key ys) (rising ys) q).0 in
    at a b (ltb x.key y.key) refl (ltb y.key x.key) refl
  where
    at : above x.key xs ≡ true → above y.key ys ≡ true → (p : Bool) → ltb x.key y.key ≡ p → (o : Bool)
        → ltb y.key x.key ≡ o → StepBy (x ∷ xs) (y ∷ ys) (compared x y)
    at a b true e o f =
        let h : x.key < y.key = ltb-true x.key y.key e in
        subst (StepBy (x ∷ xs) (y ∷ ys)) (sym (is-old x y h))
        (step-old x xs (y ∷ ys) a
        (both-intro (ltb x.key y.key) (above x.key ys) e (above_lower x.key y.key ys b (omega arith))))
    at a b false e true f =
        let h : y.key < x.key = ltb-true y.key x.key f in
        subst (StepBy (x ∷ xs) (y ∷ ys)) (sym (is-new x y h)) (step-new x xs y ys h a b)
    at a b false e false f =
        let h : x.key ≡ y.key = omega (arith, ltb-false x.key y.key e, ltb-false y.key x.key f) in
        subst (StepBy (x ∷ xs) (y ∷ ys)) (sym (is-both x y h)) (step_both x xs y ys h a b)

pub leads-onward : (k : ℕ) (xs : List Pair) → k ≤ key_limit → in_range 0 key_limit xs ≡ true → Onward k (leads (at_or_above k xs)).key
leads-onward k [] h i = record { low = h; high = omega arith }
leads-onward k (x ∷ xs) h i =
    let (here, rest) = all_cons (λ (y : Pair). within 0 key_limit y.key) x xs i in
    at (leb k x.key) refl (low_first x xs i) (leads-onward k xs h rest)
  where
    at : (b : Bool) → leb k x.key ≡ b → x.key < key_limit → Onward k (leads (at_or_above k xs)).key
        → Onward k (leads (keep b x (at_or_above k xs))).key
    at true e l ih = record { low = leb-true k x.key e; high = omega arith }
    at false e l ih = ih

compared-onward : (k : ℕ) (x y : Pair) → Onward k x.key → Onward k y.key → Onward k (compared x y).key
compared-onward k x y a b = at (ltb x.key y.key) (ltb y.key x.key)
  where
    at : (p q : Bool)
        → Onward k (pick p (removed x)
        (pick q (added y) (record { key = x.key; kind = pick (eqb x.value y.value) 3 2; old = x.value; new = y.value }))).key
    at true q = a
    at false true = b
    at false false = a

module _ (us ws : List Pair) (r : rising us ≡ true) (q : rising ws ≡ true) (i : in_range 0 key_limit us ≡ true)
    (j : in_range 0 key_limit ws ≡ true) where
  pub left-start : left us ws 0 ≡ differ us ws
  unfolding left
  left-start = ap₂ differ (above-all 0 0 key_limit us i (omega arith)) (above-all 0 0 key_limit ws j (omega arith))

  pub left_end : (k : ℕ) → key_limit ≤ k → left us ws k ≡ []
  unfolding left
  left_end k h = ap₂ differ (above-none k 0 key_limit us i h) (above-none k 0 key_limit ws j h)

  module _ (k : ℕ) (h : k ≤ key_limit) (d : Delta) (e : d ≡ compared (leads (at_or_above k us)) (leads (at_or_above k ws))) where
    pub left-on : Onward k d.key
    left-on = rw e (compared-onward k (leads (at_or_above k us)) (leads (at_or_above k ws)) (leads-onward k us h i) (leads-onward k ws h j))

    pub left_step : left us ws k ≡ told d ++ left us ws (d.key + 1)
    unfolding left
    left_step =
        let o = left-on in
        rw (sym e) at
        (steps (at_or_above k us) (at_or_above k ws) (rising-those (λ (x : Pair). leb k x.key) us r)
        (rising-those (λ (x : Pair). leb k x.key) ws q)
        (above_in k 0 key_limit us i) (above_in k 0 key_limit ws j))
        ∙ ap₂ (λ (as₁ bs₁ : List Pair). told d ++ differ as₁ bs₁) (above-above (d.key + 1) k us (omega (arith, o.low)))
        (above-above (d.key + 1) k ws (omega (arith, o.low)))
