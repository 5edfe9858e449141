-- A return, key by key: every older version stays, the open one has the settings of the version returned to, and the items grow by no more
-- than the return's own inserts.
-- Assumes nothing.
use Prim.Native.Nat.{ℕ, zero, suc, ◌+◌, ◌≤◌, ◌<◌}
use native.Mathlib.Omega.{arith}
use mathlib.Core.Bool.{Bool, true, false, ◌&&◌}
use mathlib.Core.Option.{Option, none, some}
use mathlib.Core.Path.{◌≡◌, refl, ap, ap₂, sym, ◌∙◌}
use mathlib.Core.List.{List, [], ◌∷◌, ◌++◌}
use lib.Dec.{eqb}
use lib.ListN.{length, length-append}
use borrow.Author.Tests.{eqb-true, eqb-false}
use Rattle.model.specs.Basic.{pick, those, keep, flat_map, count}
use Rattle.model.specs.declared.Entry.{Entry}
use Rattle.model.specs.declared.Delta.{Delta}
use Rattle.model.specs.Entry.{pair, alive, live_at, born}
use Rattle.model.specs.Walk.{key_limit}
use Rattle.model.specs.Differ.{says_of}
use Rattle.model.specs.Return.{comes}
use Rattle.model.proofs.lists.Lists.{shorter}
use Rattle.plain.specs.Plain.{value_at, end_key, same_value, end_other, set_as, set_missing, in_turn, back_to, keys, differs}
use Rattle.plain.proofs.Values.{or_else, set-older, set_own, set_other, end-older, end-own, end-other}
use Rattle.plain.proofs.laws.Scan.{keys-limit}

-- a number for each key, added up
abbrev sum : (ℕ → ℕ) → List ℕ → ℕ
sum g [] = 0
sum g (k ∷ ks) = g k + sum g ks

sum_same : (g h : ℕ → ℕ) (n a : ℕ) → ((k : ℕ) → a ≤ k → g k ≡ h k) → sum g (count a n) ≡ sum h (count a n)
sum_same g h zero a is = refl
sum_same g h (suc n) a is = ap₂ (λ (x y : ℕ). x + y) (is a (omega arith)) (sum_same g h n (suc a) (λ k i. is k (omega arith)))

sum_less : (g h : ℕ → ℕ) (ks : List ℕ) → ((k : ℕ) → g k ≤ h k) → sum g ks ≤ sum h ks
sum_less g h [] is = omega arith
sum_less g h (k ∷ ks) is = omega (arith, is k, sum_less g h ks is)

-- ---- one key after the other: what each step does to its own key

module _ (w v : ℕ) where
  record KeyStep (now : Option ℕ → Option ℕ → Option ℕ) (cost : Option ℕ → Option ℕ → ℕ) (f : ℕ → List Entry → List Entry) : Type 0 where
    pub older : (k j u : ℕ) → u < w → (es : List Entry) → value_at j u (f k es) ≡ value_at j u es
    pub other : (k j : ℕ) → (k ≡ j → ⊥) → (es : List Entry) → value_at j w (f k es) ≡ value_at j w es
    pub own : (k : ℕ) (es : List Entry) → value_at k w (f k es) ≡ now (value_at k w es) (value_at k v es)
    pub few : (k : ℕ) (es : List Entry) → length (f k es) ≤ length es + cost (value_at k w es) (value_at k v es)

  module _ (low : v < w) {now : Option ℕ → Option ℕ → Option ℕ} {cost : Option ℕ → Option ℕ → ℕ} {f : ℕ → List Entry → List Entry}
      (s : KeyStep now cost f) where
    turn-older : (j u : ℕ) → u < w → (ks : List ℕ) (es : List Entry) → value_at j u (in_turn f ks es) ≡ value_at j u es
    turn-older j u h [] es = refl
    turn-older j u h (k ∷ ks) es = turn-older j u h ks (f k es) ∙ s.older k j u h es

    turn_below : (n a j : ℕ) → j < a → (es : List Entry) → value_at j w (in_turn f (count a n) es) ≡ value_at j w es
    turn_below zero a j h es = refl
    turn_below (suc n) a j h es = turn_below n (suc a) j (omega arith) (f a es) ∙ s.other a j (λ (z : a ≡ j). omega arith) es

    turn_inside : (n a k : ℕ) → a ≤ k → k < a + n → (es : List Entry)
        → value_at k w (in_turn f (count a n) es) ≡ now (value_at k w es) (value_at k v es)
    turn_inside zero a k h i es = absurd (omega arith)
    turn_inside (suc n) a k h i es = at (eqb a k) refl (turn_inside n (suc a) k)
      where
        at : (b : Bool) → eqb a k ≡ b
            → (suc a ≤ k → k < suc a + n → (fs : List Entry)
            → value_at k w (in_turn f (count (suc a) n) fs) ≡ now (value_at k w fs) (value_at k v fs))
            → value_at k w (in_turn f (count (suc a) n) (f a es)) ≡ now (value_at k w es) (value_at k v es)
        at true e ih =
            let same : a ≡ k = eqb-true a k e in
            turn_below n (suc a) k (omega arith) (f a es) ∙ ap (λ (j : ℕ). value_at k w (f j es)) same ∙ s.own k es
        at false e ih =
            let n : a ≡ k → ⊥ = eqb-false a k e in
            ih (omega arith) (omega arith) (f a es) ∙ ap₂ now (s.other a k n es) (s.older a k v low es)

    turn-few : (n a : ℕ) (es : List Entry) → length (in_turn f (count a n) es) ≤ length es + sum
        (λ (k : ℕ). cost (value_at k w es) (value_at k v es)) (count a n)
    turn-few zero a es = omega arith
    turn-few (suc n) a es =
        let ih = turn-few n (suc a) (f a es) in
        let one = s.few a es in
        let rest = sum_same (λ (k : ℕ). cost (value_at k w (f a es)) (value_at k v (f a es)))
        (λ (k : ℕ). cost (value_at k w es) (value_at k v es)) n (suc a)
        (λ k h. ap₂ cost (s.other a k (λ (z : a ≡ k). omega arith) es) (s.older a k v low es)) in
        omega (arith, ih, one, rest)

-- ---- "first it deletes keys absent there or with another value"

abbrev kept : Option ℕ → Option ℕ → Option ℕ
kept o a = pick (same_value o a) o none

abbrev nothing : Option ℕ → Option ℕ → ℕ
nothing o a = 0

ending : (w v : ℕ) → v < w → KeyStep w v kept nothing (end_other w v)
ending w v low = record {
  older = λ k j u h es. older k j u h es (same_value (value_at k w es) (value_at k v es));
  other = λ k j n es. other k j n es (same_value (value_at k w es) (value_at k v es));
  own = λ k es. own k es (same_value (value_at k w es) (value_at k v es));
  few = λ k es. few k es (same_value (value_at k w es) (value_at k v es));
}
  where
    older : (k j u : ℕ) → u < w → (es : List Entry) (b : Bool) → value_at j u (pick b es (end_key w k es)) ≡ value_at j u es
    older k j u h es true = refl
    older k j u h es false = end-older w k j u h es

    other : (k j : ℕ) → (k ≡ j → ⊥) → (es : List Entry) (b : Bool) → value_at j w (pick b es (end_key w k es)) ≡ value_at j w es
    other k j n es true = refl
    other k j n es false = end-other w k j w n es

    own : (k : ℕ) (es : List Entry) (b : Bool) → value_at k w (pick b es (end_key w k es)) ≡ pick b (value_at k w es) none
    own k es true = refl
    own k es false = end-own w k es

    few : (k : ℕ) (es : List Entry) (b : Bool) → length (pick b es (end_key w k es)) ≤ length es + 0
    few k es true = omega arith
    few k es false = omega (arith, shorter (λ (e : Entry). eqb e.key k && live_at w e) w es)

-- ---- "then it inserts what is missing"

abbrev wanting : Option ℕ → Option ℕ → ℕ
wanting none none = 0
wanting none (some x) = 1
wanting (some y) a = 0

setting-missing : (w v : ℕ) → v < w → w < alive → KeyStep w v or_else wanting (set_missing w v)
setting-missing w v low high = record {
  older = λ k j u h es. older k j u h es (value_at k w es) (value_at k v es);
  other = λ k j n es. other k j n es (value_at k w es) (value_at k v es);
  own = λ k es. own k es (value_at k w es) refl (value_at k v es);
  few = λ k es. few k es (value_at k w es) (value_at k v es);
}
  where
    older : (k j u : ℕ) → u < w → (es : List Entry) (o a : Option ℕ) → value_at j u (set_as w k o a es) ≡ value_at j u es
    older k j u h es none none = refl
    older k j u h es none (some x) = set-older w k x j u h es
    older k j u h es (some y) a = refl

    other : (k j : ℕ) → (k ≡ j → ⊥) → (es : List Entry) (o a : Option ℕ) → value_at j w (set_as w k o a es) ≡ value_at j w es
    other k j n es none none = refl
    other k j n es none (some x) = set_other w k x j w n es
    other k j n es (some y) a = refl

    own : (k : ℕ) (es : List Entry) (o : Option ℕ) → value_at k w es ≡ o → (a : Option ℕ) → value_at k w (set_as w k o a es) ≡ or_else o a
    own k es none e none = e
    own k es none e (some x) = set_own w k x high es e
    own k es (some y) e a = e

    few : (k : ℕ) (es : List Entry) (o a : Option ℕ) → length (set_as w k o a es) ≤ length es + wanting o a
    few k es none none = omega arith
    few k es none (some x) = omega (arith, length-append es (born w (pair k x) ∷ []))
    few k es (some y) a = omega arith

-- ---- both

or_kept : (o a : Option ℕ) → or_else (kept o a) a ≡ a
or_kept none none = refl
or_kept none (some x) = refl
or_kept (some y) none = refl
or_kept (some y) (some x) = at (eqb y x) refl
  where
    at : (b : Bool) → eqb y x ≡ b → or_else (pick b (some y) none) (some x) ≡ some x
    at true e = ap some (eqb-true y x e)
    at false e = refl

wanting-comes : (k : ℕ) (o a : Option ℕ) → wanting (kept o a) a ≤ length (those comes (says_of k o a))
wanting-comes k none none = omega arith
wanting-comes k none (some x) = omega arith
wanting-comes k (some y) none = omega arith
wanting-comes k (some y) (some x) = at (eqb y x)
  where
    at : (b : Bool) → wanting (pick b (some y) none) (some x) ≤ length
        (those comes (pick b [] (record { key = k; kind = 2; old = y; new = x } ∷ [])))
    at true = omega arith
    at false = omega arith

pub those-append : (f : Delta → Bool) (xs ys : List Delta) → length (those f (xs ++ ys)) ≡ length (those f xs) + length (those f ys)
those-append f [] ys = omega arith
those-append f (x ∷ xs) ys = at (f x) (those-append f xs ys)
  where
    at : (b : Bool) → length (those f (xs ++ ys)) ≡ length (those f xs) + length (those f ys)
        → length (keep b x (those f (xs ++ ys))) ≡ length (keep b x (those f xs)) + length (those f ys)
    at true ih = omega (arith, ih)
    at false ih = ih

sum-comes : (g : ℕ → List Delta) (ks : List ℕ) → sum (λ (k : ℕ). length (those comes (g k))) ks ≡ length (those comes (flat_map g ks))
sum-comes g [] = refl
sum-comes g (k ∷ ks) = ap (λ (n : ℕ). length (those comes (g k)) + n) (sum-comes g ks) ∙ sym (those-append comes (g k) (flat_map g ks))

module _ (w v : ℕ) (low : v < w) (high : w < alive) (es : List Entry) where
  abbrev cleared : List Entry
  cleared = in_turn (end_other w v) (count 0 keys) es

  pub back-older : (k u : ℕ) → u < w → value_at k u (back_to w v es) ≡ value_at k u es
  back-older k u h =
      turn-older w v low (setting-missing w v low high) k u h (count 0 keys) cleared
      ∙ turn-older w v low (ending w v low) k u h (count 0 keys) es

  pub back-now : (k : ℕ) → k < key_limit → value_at k w (back_to w v es) ≡ value_at k v es
  back-now k h =
      let in_all : k < 0 + keys = omega (arith, keys-limit) in
      turn_inside w v low (setting-missing w v low high) keys 0 k (omega arith) in_all cleared
      ∙ ap₂ or_else (turn_inside w v low (ending w v low) keys 0 k (omega arith) in_all es)
      (turn-older w v low (ending w v low) k v low (count 0 keys) es)
      ∙ or_kept (value_at k w es) (value_at k v es)

  pub back-few : length (back_to w v es) ≤ length es + length (those comes (differs w v es))
  back-few =
      let one = turn-few w v low (ending w v low) keys 0 es in
      let None-more = no-sum (count 0 keys) in
      let two = turn-few w v low (setting-missing w v low high) keys 0 cleared in
      let less = few-wanted keys 0 (λ k h. h) in
      let is = sum-comes (λ (k : ℕ). says_of k (value_at k w es) (value_at k v es)) (count 0 keys) in
      omega (arith, one, None-more, two, less, is)
    where
      no-sum : (ks : List ℕ) → sum (λ (k : ℕ). 0) ks ≡ 0
      no-sum [] = refl
      no-sum (k ∷ ks) = omega (arith, no-sum ks)

      few-wanted : (n a : ℕ) → ((k : ℕ) → k < a + n → k < 0 + keys)
          → sum (λ (k : ℕ). wanting (value_at k w cleared) (value_at k v cleared)) (count a n) ≤ sum
          (λ (k : ℕ). length (those comes (says_of k (value_at k w es) (value_at k v es)))) (count a n)
      few-wanted zero a h = omega arith
      few-wanted (suc n) a h =
          let e = ap₂ wanting (turn_inside w v low (ending w v low) keys 0 a (omega arith) (h a (omega arith)) es)
          (turn-older w v low (ending w v low) a v low (count 0 keys) es) in
          omega (arith, e, wanting-comes a (value_at a w es) (value_at a v es), few-wanted n (suc a) (λ k i. h k (omega arith)))
