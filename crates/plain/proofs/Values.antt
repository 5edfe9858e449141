-- What an append, an end, an abandon and a prune do to the value of a key at a version.
-- Assumes nothing.
use Prim.Native.Nat.{ℕ, ◌≤◌, ◌<◌}
use native.Mathlib.Omega.{arith}
use mathlib.Core.Bool.{Bool, true, false, ◌&&◌, not}
use mathlib.Core.Option.{Option, none, some}
use mathlib.Core.Path.{◌≡◌, refl, ap, ap₂, sym, ◌∙◌}
use mathlib.Core.List.{List, [], ◌∷◌, ◌++◌, map}
use lib.Dec.{leb, ltb, eqb}
use lib.ListN.{length}
use borrow.Author.Tests.{ltb-true, ltb-false, lt-ltb, le-ltb, lt-leb, le-leb, eqb-true, eq-eqb, ne_eqb}
use Rattle.model.specs.Basic.{pick, those, keep}
use Rattle.model.specs.declared.Entry.{Entry}
use Rattle.model.specs.Entry.{pair, alive, live_at, born, end_one}
use Rattle.model.specs.Calls.{revived, restored_entries}
use Rattle.model.proofs.lists.Lists.{both_true}
use Rattle.model.proofs.lists.Bools.{fails-left, fails-right}
use Rattle.plain.specs.Plain.{value_at, set_key, end_key, kept_from}

-- the first of two values, or else the second
abbrev pub or_else : Option ℕ → Option ℕ → Option ℕ
or_else none o = o
or_else (some x) o = some x

-- the value of a key that one item in front makes of the rest's, by whether it is the key's and alive
abbrev first : Bool → Entry → Option ℕ → Option ℕ
first b e o = pick b (some e.value) o

-- ---- an append

pub value-append : (k v : ℕ) (es fs : List Entry) → value_at k v (es ++ fs) ≡ or_else (value_at k v es) (value_at k v fs)
value-append k v [] fs = refl
value-append k v (e ∷ es) fs = at (eqb e.key k && live_at v e) (value-append k v es fs)
  where
    at : (b : Bool) → value_at k v (es ++ fs) ≡ or_else (value_at k v es) (value_at k v fs)
        → first b e (value_at k v (es ++ fs)) ≡ or_else (first b e (value_at k v es)) (value_at k v fs)
    at true ih = refl
    at false ih = ih

or-none : (o : Option ℕ) → or_else o none ≡ o
or-none none = refl
or-none (some x) = refl

-- an item that is set starts at w: older versions do not see it
pub set-older : (w k x j v : ℕ) → v < w → (es : List Entry) → value_at j v (set_key w k x es) ≡ value_at j v es
set-older w k x j v h es =
    value-append j v es (born w (pair k x) ∷ [])
    ∙ ap (or_else (value_at j v es))
    (ap (λ (b : Bool). first b (born w (pair k x)) none) (fails-right (eqb k j) _ (fails-left (leb w v) (ltb v alive) (lt-leb w v h))))
    ∙ or-none (value_at j v es)

-- at w it is seen where the key had no value
pub set_own : (w k x : ℕ) → w < alive → (es : List Entry) → value_at k w es ≡ none → value_at k w (set_key w k x es) ≡ some x
set_own w k x h es e =
    value-append k w es (born w (pair k x) ∷ []) ∙ ap (λ (o : Option ℕ). or_else o (value_at k w (born w (pair k x) ∷ []))) e
    ∙ ap (λ (b : Bool). first b (born w (pair k x)) none)
    (ap₂ (λ (a b : Bool). a && b) (eq-eqb k k refl) (ap₂ (λ (a b : Bool). a && b) (le-leb w w (omega arith)) (lt-ltb w alive h)))

pub set_other : (w k x j v : ℕ) → (k ≡ j → ⊥) → (es : List Entry) → value_at j v (set_key w k x es) ≡ value_at j v es
set_other w k x j v n es =
    value-append j v es (born w (pair k x) ∷ [])
    ∙ ap (or_else (value_at j v es)) (ap (λ (b : Bool). first b (born w (pair k x)) none) (fails-left (eqb k j) _ (ne_eqb k j n)))
    ∙ or-none (value_at j v es)

-- ---- an end

abbrev ends : ℕ → ℕ → Entry → Bool
ends w k e = eqb e.key k && live_at w e

-- versions before w see the same
pub end-older : (w k j v : ℕ) → v < w → (es : List Entry) → value_at j v (end_key w k es) ≡ value_at j v es
end-older w k j v h [] = refl
end-older w k j v h (e ∷ es) = at (ends w k e) refl (eqb e.start w) refl (end-older w k j v h es)
  where
    at : (a : Bool) → ends w k e ≡ a → (b : Bool) → eqb e.start w ≡ b → value_at j v (end_key w k es) ≡ value_at j v es
        → value_at j v (end_one a b w e (end_key w k es)) ≡ value_at j v (e ∷ es)
    at false i b s ih = ap (first (eqb e.key j && live_at v e) e) ih
    at true i true s ih =
        let is : e.start ≡ w = eqb-true e.start w s in
        let late : v < e.start = omega arith in
        ih ∙ sym (ap (λ (c : Bool). first c e (value_at j v es))
        (fails-right (eqb e.key j) _ (fails-left (leb e.start v) (ltb v e.end) (lt-leb e.start v late))))
    at true i false s ih =
        let live = both_true (leb e.start w) (ltb w e.end) (both_true (eqb e.key k) (live_at w e) i).1 in
        let up : w < e.end = ltb-true w e.end live.1 in
        let high : v < e.end = omega arith in
        ap₂ (λ (c : Bool) (o : Option ℕ). first (eqb e.key j && (leb e.start v && c)) e o)
        (lt-ltb v w h ∙ sym (lt-ltb v e.end high)) ih

-- at w the key has no value any more
pub end-own : (w k : ℕ) (es : List Entry) → value_at k w (end_key w k es) ≡ none
end-own w k [] = refl
end-own w k (e ∷ es) = at (ends w k e) refl (eqb e.start w) (end-own w k es)
  where
    at : (a : Bool) → ends w k e ≡ a → (b : Bool) → value_at k w (end_key w k es) ≡ none → value_at k w (end_one a b w e (end_key w k es)) ≡ none
    at false i b ih = ap₂ (λ (c : Bool) (o : Option ℕ). first c e o) i ih
    at true i true ih = ih
    at true i false ih =
        ap₂ (λ (c : Bool) (o : Option ℕ). first c e o)
        (fails-right (eqb e.key k) _ (fails-right (leb e.start w) (ltb w w) (not-below w))) ih
      where
        not-below : (n : ℕ) → ltb n n ≡ false
        not-below n = at-false (ltb n n) refl
          where
            at-false : (b : Bool) → ltb n n ≡ b → b ≡ false
            at-false true z = absurd (let y : n < n = ltb-true n n z in omega arith)
            at-false false z = refl

-- and every other key the one that it had
pub end-other : (w k j v : ℕ) → (k ≡ j → ⊥) → (es : List Entry) → value_at j v (end_key w k es) ≡ value_at j v es
end-other w k j v n [] = refl
end-other w k j v n (e ∷ es) = at (ends w k e) refl (eqb e.start w) (end-other w k j v n es)
  where
    at : (a : Bool) → ends w k e ≡ a → (b : Bool) → value_at j v (end_key w k es) ≡ value_at j v es
        → value_at j v (end_one a b w e (end_key w k es)) ≡ value_at j v (e ∷ es)
    at false i b ih = ap (first (eqb e.key j && live_at v e) e) ih
    at true i b ih = ended b ih
      where
        not_own : eqb e.key j ≡ false
        not_own = ne_eqb e.key j (λ (z : e.key ≡ j). n (sym (eqb-true e.key k (both_true (eqb e.key k) (live_at w e) i).0) ∙ z))

        ended : (b : Bool) → value_at j v (end_key w k es) ≡ value_at j v es
            → value_at j v (end_one true b w e (end_key w k es)) ≡ value_at j v (e ∷ es)
        ended true ih = ih ∙ sym (ap (λ (c : Bool). first c e (value_at j v es)) (fails-left (eqb e.key j) (live_at v e) not_own))
        ended false ih =
            ap₂ (λ (c : Bool) (o : Option ℕ). first c e o)
            (fails-left (eqb e.key j) _ not_own ∙ sym (fails-left (eqb e.key j) (live_at v e) not_own)) ih

-- ---- an abandon: versions before w see the same

pub restored-older : (w k v : ℕ) → v < w → v < alive → (es : List Entry) → value_at k v (restored_entries w es) ≡ value_at k v es
restored-older w k v h low [] = refl
restored-older w k v h low (e ∷ es) = at (eqb e.start w) refl (restored-older w k v h low es)
  where
    end_same : (b : Bool) → eqb e.end w ≡ b → ltb v (pick b alive e.end) ≡ ltb v e.end
    end_same true i =
        let is : e.end ≡ w = eqb-true e.end w i in let up : v < e.end = omega arith in lt-ltb v alive low ∙ sym (lt-ltb v e.end up)
    end_same false i = refl

    at : (b : Bool) → eqb e.start w ≡ b → value_at k v (restored_entries w es) ≡ value_at k v es
        → value_at k v (map (revived w) (keep (not b) e (those (λ (f : Entry). not (eqb f.start w)) es))) ≡ value_at k v (e ∷ es)
    at true i ih =
        let is : e.start ≡ w = eqb-true e.start w i in
        let late : v < e.start = omega arith in
        ih ∙ sym (ap (λ (c : Bool). first c e (value_at k v es))
        (fails-right (eqb e.key k) _ (fails-left (leb e.start v) (ltb v e.end) (lt-leb e.start v late))))
    at false i ih =
        ap₂ (λ (c : Bool) (o : Option ℕ). first (eqb e.key k && (leb e.start v && c)) e o) (end_same (eqb e.end w) refl) ih

-- ---- a prune

-- what ended at or before v says nothing from v on
pub kept-later : (v k u : ℕ) → v ≤ u → (es : List Entry) → value_at k u (kept_from v es) ≡ value_at k u es
kept-later v k u h [] = refl
kept-later v k u h (e ∷ es) = at (ltb v e.end) refl (kept-later v k u h es)
  where
    at : (b : Bool) → ltb v e.end ≡ b → value_at k u (kept_from v es) ≡ value_at k u es
        → value_at k u (keep b e (kept_from v es)) ≡ value_at k u (e ∷ es)
    at true i ih = ap (first (eqb e.key k && live_at u e) e) ih
    at false i ih =
        ih
        ∙ sym (ap (λ (b : Bool). first b e (value_at k u es))
        (fails-right (eqb e.key k) (live_at u e)
        (fails-right (leb e.start u) (ltb u e.end) (le-ltb u e.end (omega (arith, ltb-false v e.end i))))))

pub kept-shorter : (v : ℕ) (es : List Entry) → length (kept_from v es) ≤ length es
kept-shorter v [] = omega arith
kept-shorter v (e ∷ es) = at (ltb v e.end) (kept-shorter v es)
  where
    at : (b : Bool) → length (kept_from v es) ≤ length es → length (keep b e (kept_from v es)) ≤ length (e ∷ es)
    at true ih = omega arith
    at false ih = omega arith
