-- Laws about cursor/specs/First. Assumes nothing.
use Prim.Native.Nat.{ℕ, ◌≤◌, ◌<◌}
use native.Mathlib.Omega.{arith}
use mathlib.Core.Bool.{Bool, true, false, ◌&&◌, and-true}
use mathlib.Core.Path.{◌≡◌, refl, ap, ap₂, ◌∙◌}
use mathlib.Core.List.{List, [], ◌∷◌, ◌++◌}
use lib.Dec.{leb, ltb}
use borrow.Author.Tests.{leb-true, ltb-true, le-leb, lt-leb}
use Rattle.model.specs.Basic.{keep}
use Rattle.model.specs.declared.Pair.{Pair}
use Rattle.model.specs.Entry.{within}
use Rattle.model.specs.Walk.{between, key_limit}
use Rattle.model.specs.Tree.{in_range}
use Rattle.model.proofs.lists.Lists.{both_true, both-intro, all_cons}
use Rattle.model.proofs.tree.Local.{those-append}
use Rattle.cursor.specs.First.{at_or_above, leads}

-- ---- laws

pub above-append : (k : ℕ) (xs ys : List Pair) → at_or_above k (xs ++ ys) ≡ at_or_above k xs ++ at_or_above k ys
above-append k xs ys = those-append (λ (x : Pair). leb k x.key) xs ys

-- keys below k
pub above-none : (k lo hi : ℕ) (xs : List Pair) → in_range lo hi xs ≡ true → hi ≤ k → at_or_above k xs ≡ []
above-none k lo hi [] i h = refl
above-none k lo hi (x ∷ xs) i h =
    let (here, rest) = all_cons (λ (y : Pair). within lo hi y.key) x xs i in
    let (p, q) = both_true (leb lo x.key) (ltb x.key hi) here in
    rw (lt-leb k x.key (omega (arith, ltb-true x.key hi q))) (above-none k lo hi xs rest h)

-- keys at or above k
pub above-all : (k lo hi : ℕ) (xs : List Pair) → in_range lo hi xs ≡ true → k ≤ lo → at_or_above k xs ≡ xs
above-all k lo hi [] i h = refl
above-all k lo hi (x ∷ xs) i h =
    let (here, rest) = all_cons (λ (y : Pair). within lo hi y.key) x xs i in
    let (p, q) = both_true (leb lo x.key) (ltb x.key hi) here in
    rw (le-leb k x.key (omega (arith, leb-true lo x.key p))) (ap (λ (zs : List Pair). x ∷ zs) (above-all k lo hi xs rest h))

pub above_in : (k lo hi : ℕ) (xs : List Pair) → in_range lo hi xs ≡ true → in_range lo hi (at_or_above k xs) ≡ true
above_in k lo hi [] i = refl
above_in k lo hi (x ∷ xs) i =
    let (here, rest) = all_cons (λ (y : Pair). within lo hi y.key) x xs i in
    at (leb k x.key) here (above_in k lo hi xs rest)
  where
    at : (b : Bool) → within lo hi x.key ≡ true → in_range lo hi (at_or_above k xs) ≡ true
        → in_range lo hi (keep b x (at_or_above k xs)) ≡ true
    at true p q = both-intro (within lo hi x.key) (in_range lo hi (at_or_above k xs)) p q
    at false p q = q

-- no key is above the largest
pub between-above : (k lo hi : ℕ) (xs : List Pair) → in_range lo hi xs ≡ true → hi ≤ key_limit → between k 16777215 xs ≡ at_or_above k xs
between-above k lo hi [] i h = refl
between-above k lo hi (x ∷ xs) i h =
    let (here, rest) = all_cons (λ (y : Pair). within lo hi y.key) x xs i in
    let (p, q) = both_true (leb lo x.key) (ltb x.key hi) here in
    let e : leb x.key 16777215 ≡ true = le-leb x.key 16777215 (omega (arith, ltb-true x.key hi q)) in
    ap₂ (λ (b : Bool) (zs : List Pair). keep b x zs) (ap (λ (b : Bool). leb k x.key && b) e ∙ and-true (leb k x.key))
    (between-above k lo hi xs rest h)

-- the first of two lists one after the other
pub leads-first : (xs ys : List Pair) → (leads xs).key < key_limit → leads (xs ++ ys) ≡ leads xs
leads-first [] ys h = absurd (omega arith)
leads-first (x ∷ xs) ys h = refl

pub leads-none : (lo hi : ℕ) (xs ys : List Pair) → in_range lo hi xs ≡ true → hi ≤ key_limit → key_limit ≤ (leads xs).key
    → leads (xs ++ ys) ≡ leads ys
leads-none lo hi [] ys i t h = refl
leads-none lo hi (x ∷ xs) ys i t h =
    let (here, rest) = all_cons (λ (y : Pair). within lo hi y.key) x xs i in
    let (p, q) = both_true (leb lo x.key) (ltb x.key hi) here in
    absurd (omega (arith, ltb-true x.key hi q))
