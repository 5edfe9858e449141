-- A stretch of keys that lies in one leaf: what the whole has from a key on is what the leaf has in the stretch, and then what the whole
-- has behind it.
-- Assumes nothing.
use Prim.Native.Nat.{ℕ, ◌+◌, ◌≤◌, ◌<◌}
use native.Mathlib.Omega.{arith}
use mathlib.Core.Bool.{Bool, true, false, ◌&&◌}
use mathlib.Core.Path.{◌≡◌, refl, ap, ap₂, sym, ◌∙◌}
use mathlib.Core.Logic.{◌⊎◌, inl, inr}
use mathlib.Core.List.{List, [], ◌∷◌, ◌++◌, append-nil}
use lib.Dec.{leb, ltb}
use borrow.Author.Tests.{leb-true, leb-false, ltb-true, le-leb, lt-leb}
use Rattle.model.specs.Basic.{keep}
use Rattle.model.specs.declared.Pair.{Pair}
use Rattle.model.specs.Entry.{within}
use Rattle.model.specs.Page.{Page, pairs_at}
use Rattle.model.specs.Store.{page}
use Rattle.model.specs.Walk.{between}
use Rattle.model.specs.Inner.{rising}
use Rattle.model.specs.Tree.{in_range}
use Rattle.model.proofs.lists.Lists.{both_true, all_cons}
use Rattle.model.proofs.tree.Local.{those-append}
use Rattle.model.proofs.lists.Merging.{above, above_lower}
use Rattle.model.proofs.lists.Bools.{fails-right}
use Rattle.walk.proofs.laws.Ends.{between-above}
use Rattle.cursor.specs.First.{at_or_above}
use Rattle.cursor.specs.Reaches.{Reaches}

-- keys elsewhere
between_none : (k hi a b : ℕ) (xs : List Pair) → in_range a b xs ≡ true → (b ≤ k) ⊎ (hi < a) → between k hi xs ≡ []
between_none k hi a b [] i o = refl
between_none k hi a b (x ∷ xs) i o =
    let (here, rest) = all_cons (λ (y : Pair). within a b y.key) x xs i in
    let (p, q) = both_true (leb a x.key) (ltb x.key b) here in
    ap₂ (λ (t : Bool) (zs : List Pair). keep t x zs) (at (leb-true a x.key p) (ltb-true x.key b q) o)
    (between_none k hi a b xs rest o)
  where
    at : a ≤ x.key → x.key < b → (b ≤ k) ⊎ (hi < a) → (leb k x.key && leb x.key hi) ≡ false
    at p q (inl h) = ap (λ (t : Bool). t && leb x.key hi) (lt-leb k x.key (omega arith))
    at p q (inr h) = fails-right (leb k x.key) (leb x.key hi) (lt-leb x.key hi (omega arith))

pub all_above : (k j : ℕ) (xs : List Pair) → above j xs ≡ true → k ≤ j + 1 → at_or_above k xs ≡ xs
all_above k j [] a h = refl
all_above k j (x ∷ xs) a h =
    let (p, q) = all_cons (λ (y : Pair). ltb j y.key) x xs a in
    rw (le-leb k x.key (omega (arith, ltb-true j x.key p))) (ap (λ (zs : List Pair). x ∷ zs) (all_above k j xs q h))

-- of settings that stand by key
split : (k hi : ℕ) (xs : List Pair) → rising xs ≡ true → k ≤ hi + 1 → at_or_above k xs ≡ between k hi xs ++ at_or_above (hi + 1) xs
split k hi [] r h = refl
split k hi (x ∷ xs) r h =
    let (a, p) = both_true (above x.key xs) (rising xs) r in
    at a (leb k x.key) refl (leb x.key hi) refl (split k hi xs p h)
  where
    at : above x.key xs ≡ true → (s : Bool) → leb k x.key ≡ s → (t : Bool) → leb x.key hi ≡ t
        → at_or_above k xs ≡ between k hi xs ++ at_or_above (hi + 1) xs
        → keep s x (at_or_above k xs) ≡ keep (s && t) x (between k hi xs) ++ keep (leb (hi + 1) x.key) x (at_or_above (hi + 1) xs)
    at a false e t f ih = rw (lt-leb (hi + 1) x.key (omega (arith, leb-false k x.key e))) ih
    at a true e true f ih = rw (lt-leb (hi + 1) x.key (omega (arith, leb-true x.key hi f))) (ap (λ (zs : List Pair). x ∷ zs) ih)
    at a true e false f ih =
        let g = leb-false x.key hi f in
        rw (le-leb (hi + 1) x.key (omega arith), between-above k hi xs (above_lower hi x.key xs a (omega arith)))
        (ap (λ (zs : List Pair). x ∷ zs) (all_above k x.key xs a (omega arith) ∙ sym (all_above (hi + 1) x.key xs a (omega arith))))

-- the stretch from k to hi, in the leaf for k
pub stretch : (least v : ℕ) (ps : List Page) (whole : List Pair) (n k high : ℕ) → Reaches least v ps whole 0 n k high → rising whole ≡ true
    → (hi : ℕ) → k ≤ hi + 1 → hi < high → at_or_above k whole ≡ between k hi (pairs_at v (page ps n)) ++ at_or_above (hi + 1) whole
stretch least v ps whole n k high r o hi h l = split k hi whole o h ∙ ap (λ (zs : List Pair). zs ++ at_or_above (hi + 1) whole) inside
  where
    mine : List Pair
    mine = pairs_at v (page ps n)

    inside : between k hi whole ≡ between k hi (pairs_at v (page ps n))
    inside =
        ap (between k hi) (r.is ∙ ap (λ (us : List Pair). r.before ++ (us ++ r.after)) (sym r.holds.same))
        ∙ those-append (λ (x : Pair). leb k x.key && leb x.key hi) r.before (mine ++ r.after)
        ∙ ap₂ ◌++◌ (between_none k hi 0 r.low r.before r.lefts (inl r.from))
        (those-append (λ (x : Pair). leb k x.key && leb x.key hi) mine r.after
        ∙ ap (λ (zs : List Pair). between k hi mine ++ zs) (between_none k hi high _ r.after r.rights (inr l))
        ∙ append-nil (between k hi mine))
