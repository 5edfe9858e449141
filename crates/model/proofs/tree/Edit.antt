-- An insert of a key that a leaf lacks, and a delete, keep a leaf's pairs in order and in range.
-- Assumes nothing.
use Prim.Native.Nat.{ℕ, suc, ◌≤◌, ◌<◌}
use native.Mathlib.Omega.{arith}
use mathlib.Core.Bool.{Bool, true, false, ◌||◌, not}
use mathlib.Core.Option.{none, some}
use mathlib.Core.Path.{◌≡◌, refl, ap, sym, subst}
use mathlib.Core.List.{List, [], ◌∷◌}
use lib.Dec.{ltb, eqb}
use lib.ListN.{length}
use borrow.Author.Tests.{ltb-true, ltb-false, eqb-true, eqb-false, lt-ltb, le-leb, ne_eqb}
use Rattle.model.specs.Basic.{all, those, keep, has, pick, in_order}
use Rattle.model.specs.declared.Pair.{Pair}
use Rattle.model.specs.Entry.{pair, within, placed, enter_pair}
use Rattle.model.specs.Walk.{find}
use Rattle.model.specs.Tree.{LeafHolds, in_range}
use Rattle.model.proofs.lists.Lists.{both_true, both-intro, all_cons}
use Rattle.model.proofs.tree.Local.{applied}

all-enter_pair : (f : Pair → Bool) (p : Pair) → f p ≡ true → (us : List Pair) → all f us ≡ true → all f (enter_pair p us) ≡ true
all-enter_pair f p y [] ok = both-intro (f p) true y refl
all-enter_pair f p y (u ∷ us) ok =
    let (here, rest) = all_cons f u us ok in
    at (ltb p.key u.key) here rest (all-enter_pair f p y us rest)
  where
    at : (b : Bool) → f u ≡ true → all f us ≡ true → all f (enter_pair p us) ≡ true → all f (placed b p u us (enter_pair p us)) ≡ true
    at true here rest ih = both-intro (f p) _ y (both-intro (f u) _ here rest)
    at false here rest ih = both-intro (f u) _ here ih

pub all-those : (f g : Pair → Bool) (us : List Pair) → all f us ≡ true → all f (those g us) ≡ true
all-those f g [] ok = refl
all-those f g (u ∷ us) ok = at (g u) (all_cons f u us ok).0 (all-those f g us (all_cons f u us ok).1)
  where
    at : (b : Bool) → f u ≡ true → all f (those g us) ≡ true → all f (keep b u (those g us)) ≡ true
    at true here ih = both-intro _ _ here ih
    at false here ih = ih

-- the key is not there
pub missing : (k : ℕ) (u : Pair) (us : List Pair) → find k (u ∷ us) ≡ none → (u.key ≡ k → ⊥) × (find k us ≡ none)
missing k u us h = at (eqb u.key k) refl h
  where
    at : (b : Bool) → eqb u.key k ≡ b → pick b (some u.value) (find k us) ≡ none → (u.key ≡ k → ⊥) × (find k us ≡ none)
    at true e z = absurd (let n : ◌≡◌ {A = ℕ} 0 1 = cc in omega arith)
    at false e z = (eqb-false u.key k e, z)

abbrev pub lt : Pair → Pair → Bool
lt x y = ltb x.key y.key

rising-enter : (p : Pair) (us : List Pair) → find p.key us ≡ none → in_order lt us ≡ true → in_order lt (enter_pair p us) ≡ true
rising-enter p [] h o = refl
rising-enter p (u ∷ us) h o =
    let (here, rest) = both_true (all (lt u) us) (in_order lt us) o in
    at (ltb p.key u.key) refl here rest (missing p.key u us h).0 (rising-enter p us (missing p.key u us h).1 rest)
  where
    over : p.key < u.key → (vs : List Pair) → all (lt u) vs ≡ true → all (lt p) vs ≡ true
    over l [] a = refl
    over l (v ∷ vs) a =
        let (x, y) = all_cons (lt u) v vs a in
        both-intro _ _ (lt-ltb p.key v.key (omega (arith, ltb-true u.key v.key x))) (over l vs y)

    at : (b : Bool) → ltb p.key u.key ≡ b → all (lt u) us ≡ true → in_order lt us ≡ true → (u.key ≡ p.key → ⊥)
        → in_order lt (enter_pair p us) ≡ true
        → in_order lt (placed b p u us (enter_pair p us)) ≡ true
    at true e here rest n ih =
        let l : p.key < u.key = ltb-true p.key u.key e in
        both-intro _ _ (both-intro _ _ e (over l us here)) (both-intro _ _ here rest)
    at false e here rest n ih =
        both-intro _ _ (all-enter_pair (lt u) p (lt-ltb u.key p.key (less (ltb-false p.key u.key e) n)) us here) ih
      where
        less : u.key ≤ p.key → (u.key ≡ p.key → ⊥) → u.key < p.key
        less a b = omega arith

pub rising-those : (g : Pair → Bool) (us : List Pair) → in_order lt us ≡ true → in_order lt (those g us) ≡ true
rising-those g [] o = refl
rising-those g (u ∷ us) o =
    let (here, rest) = both_true (all (lt u) us) (in_order lt us) o in
    at (g u) (all-those (lt u) g us here) (rising-those g us rest)
  where
    at : (b : Bool) → all (lt u) (those g us) ≡ true → in_order lt (those g us) ≡ true → in_order lt (keep b u (those g us)) ≡ true
    at true here ih = both-intro _ _ here ih
    at false here ih = ih

pub those-one : (k : ℕ) (us : List Pair) → all (λ (y : Pair). ltb k y.key) us ≡ true
    → those (λ (y : Pair). not (has y.key (k ∷ []))) us ≡ us
those-one k [] h = refl
those-one k (u ∷ us) h =
    let (a, b) = all_cons (λ (y : Pair). ltb k y.key) u us h in
    rw (ne_eqb u.key k (λ (e : u.key ≡ k). omega (arith, ltb-true k u.key a))) (ap (λ (vs : List Pair). u ∷ vs) (those-one k us b))

-- of keys that rise, dropping one drops at most one pair
pub dropped-one : (k : ℕ) (us : List Pair) → in_order lt us ≡ true
    → length us ≤ suc (length (those (λ (y : Pair). not (has y.key (k ∷ []))) us))
dropped-one k [] o = omega arith
dropped-one k (u ∷ us) o =
    let (a, b) = both_true (all (lt u) us) (in_order lt us) o in
    at (eqb u.key k) refl a (dropped-one k us b)
  where
    at : (b : Bool) → eqb u.key k ≡ b → all (lt u) us ≡ true
        → length us ≤ suc (length (those (λ (y : Pair). not (has y.key (k ∷ []))) us))
        → suc (length us) ≤ suc (length (keep (not (b || false)) u (those (λ (y : Pair). not (has y.key (k ∷ []))) us)))
    at false e a ih = omega arith
    at true e a ih =
        omega (
          arith,
          ap (λ (vs : List Pair). length vs)
              (those-one k us (subst (λ (j : ℕ). all (λ (y : Pair). ltb j y.key) us ≡ true) (eqb-true u.key k e) a)),
        )

pub length-enter_pair : (p : Pair) (us : List Pair) → length (enter_pair p us) ≡ suc (length us)
length-enter_pair p [] = refl
length-enter_pair p (u ∷ us) = at (ltb p.key u.key) (length-enter_pair p us)
  where
    at : (b : Bool) → length (enter_pair p us) ≡ suc (length us) → length (placed b p u us (enter_pair p us)) ≡ suc (suc (length us))
    at true ih = refl
    at false ih = ap suc ih

pub keep_all : (vs : List Pair) → those (λ (y : Pair). true) vs ≡ vs
keep_all [] = refl
keep_all (v ∷ vs) = ap (λ (zs : List Pair). v ∷ zs) (keep_all vs)

-- an insert's change, and a delete's, said plainly
pub insert-same : (k x : ℕ) (us : List Pair) → applied (record { drop = []; take = pair k x ∷ [] }) us ≡ enter_pair (pair k x) us
insert-same k x us = ap (enter_pair (pair k x)) (keep_all us)

or-false : (q : Bool) → (q || false) ≡ q
or-false true = refl
or-false false = refl

pub delete-same : (k : ℕ) (us : List Pair) → applied (record { drop = k ∷ []; take = [] }) us
    ≡ those (λ (y : Pair). not (eqb y.key k)) us
delete-same k us = λ i. those (λ (y : Pair). not (or-false (eqb y.key k) i)) us

pub leaf-insert : (k x lo hi : ℕ) (us : List Pair) → find k us ≡ none → lo ≤ k → k < hi → LeafHolds lo hi us us
    → LeafHolds lo hi (applied (record { drop = []; take = pair k x ∷ [] }) us) (applied (record { drop = []; take = pair k x ∷ [] }) us)
leaf-insert k x lo hi us h p q t =
    let same : those (λ (y : Pair). true) us ≡ us = keep_all us in
    record {
      same = refl;
      keys = subst (λ (vs : List Pair). in_range lo hi (enter_pair (pair k x) vs) ≡ true) (sym same)
          (all-enter_pair (λ (y : Pair). within lo hi y.key) (pair k x) (both-intro _ _ (le-leb lo k p) (lt-ltb k hi q)) us t.keys);
      rising = subst (λ (vs : List Pair). in_order lt (enter_pair (pair k x) vs) ≡ true) (sym same)
          (rising-enter (pair k x) us h t.rising);
    }

pub leaf-delete : (k lo hi : ℕ) (us : List Pair) → LeafHolds lo hi us us
    → LeafHolds lo hi (applied (record { drop = k ∷ []; take = [] }) us) (applied (record { drop = k ∷ []; take = [] }) us)
leaf-delete k lo hi us t = record {
  same = refl;
  keys = all-those (λ (y : Pair). within lo hi y.key) (λ (y : Pair). not (has y.key (k ∷ []))) us t.keys;
  rising = rising-those (λ (y : Pair). not (has y.key (k ∷ []))) us t.rising;
}
